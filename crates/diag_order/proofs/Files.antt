-- Files are gone over one after the other; the last line's file.
use Rattle.std.proofs.Common.{◌≡◌, ℕ, suc, ◌+◌, ◌-◌, ◌<◌, ◌≤◌, true, false, List, [], ◌∷◌, ◌++◌, length, get_or, drop, map, reverse, Some, refl, sym, ap, subst, ◌∙◌, arith, append_assoc}
use Rattle.std.specs.Prelude.{slice_get, All}
use Rattle.std.specs.Str.{bytes_eq}
use Rattle.std.proofs.lemmas.List.{drop_more, drop_all, reverse-append, get_or_append_left, length-append}
use Rattle.std.proofs.lemmas.Slice.Eq.{bytes_eq-Decides}
use Rattle.diag_order.specs.declared.line.Diag.{Diag}
use Rattle.diag_order.specs.declared.line.Line.{Line}
use Rattle.diag_order.specs.Places.{line_at, col_at}
use Rattle.diag_order.specs.Sorted.{Texts, text_in, line_of}
use Rattle.diag_order.specs.Last.{last_text}

module _ (files : Texts) (path : List ℕ) (i : ℕ) where
  pub file_here : (file : List ℕ × List ℕ) → i < length files → file ≡ get_or files i file → true ≡ bytes_eq file.0 path → file.1 ≡ text_in (drop i files) path
  unfolding text_in
  file_here file lt is same =
      let e : drop i files ≡ file ∷ drop (i + 1) files = drop_more files i file lt ∙ ap (λ f. f ∷ drop (i + 1) files) (sym is) in
      rw (e, ← same) refl

  pub file_further : (file : List ℕ × List ℕ) → i < length files → file ≡ get_or files i file → false ≡ bytes_eq file.0 path → text_in (drop (i + 1) files) path ≡ text_in (drop i files) path
  unfolding text_in
  file_further file lt is other =
      let e : drop i files ≡ file ∷ drop (i + 1) files = drop_more files i file lt ∙ ap (λ f. f ∷ drop (i + 1) files) (sym is) in
      rw (e, ← other) refl

  pub file_none : length files ≤ i → [] ≡ text_in (drop i files) path
  unfolding text_in
  file_none le = rw (drop_all i files le) refl

last_is : (texts : Texts) (lines : List Line) (line : Line) → Some line ≡ slice_get lines (length lines - 1) → last_text texts lines ≡ text_in texts line.path
last_is texts [] line e = absurd cc
last_is texts (only ∷ []) line e = let same : line ≡ only = cc in ap (λ (l : Line). text_in texts l.path) (sym same)
last_is texts (first ∷ next ∷ lines) line e =
    let k : length (first ∷ next ∷ lines) - 1 ≡ suc (length (next ∷ lines) - 1) = omega arith in
    last_is texts (next ∷ lines) line (rw k at e)

pub last_in : (lines : List Line) (line : Line) (path : List ℕ) → Some line ≡ slice_get lines (length lines - 1) → true ≡ bytes_eq line.path path → (texts : Texts) → last_text texts lines ≡ text_in texts path
last_in lines line path e same texts = last_is texts lines line e ∙ ap (text_in texts) ((bytes_eq-Decides line.path path).0 (sym same))

pub last_pushed : (texts : Texts) (lines : List Line) (line : Line) → last_text texts (lines ++ line ∷ []) ≡ text_in texts line.path
last_pushed texts [] line = refl
last_pushed texts (first ∷ []) line = refl
last_pushed texts (first ∷ next ∷ lines) line = last_pushed texts (next ∷ lines) line

-- a diagnostic whose file and place are known
pub placed_so : (texts : Texts) (d : Diag) (text : List ℕ) (line col : ℕ) → text ≡ text_in texts d.path → line ≡ line_at text d.offset → col ≡ col_at text d.offset
    → ◌≡◌ {A = Line} (record { path = d.path; line = line; col = col; code = d.code; text = d.text }) (line_of texts d)
placed_so texts d text line col t l c = cc

-- the last diagnostic is placed next
pub pop_placed : (texts : Texts) (done total : List Line) (before rest : List Diag) (d : Diag) → before ≡ rest ++ d ∷ [] → done ++ map (line_of texts) (reverse before) ≡ total
    → (done ++ line_of texts d ∷ []) ++ map (line_of texts) (reverse rest) ≡ total
pop_placed texts done total before rest d e so_far =
    append_assoc done (line_of texts d ∷ []) (map (line_of texts) (reverse rest))
    ∙ ap (λ ds. done ++ map (line_of texts) ds) (sym (reverse-append rest (d ∷ [])) ∙ ap reverse (sym e))
    ∙ so_far

-- what holds of all diagnostics holds of those that are left
pub left_over : (P : Diag → Type 0) (before rest : List Diag) (d : Diag) → before ≡ rest ++ d ∷ [] → All P before → All P rest
left_over P before rest d e all = λ k x lt.
    let e1 = get_or_append_left rest (d ∷ []) x k lt in
    subst P (ap (λ ds. get_or ds k x) e ∙ e1) (all k x (omega (arith, ap length e, length-append rest (d ∷ []))))
