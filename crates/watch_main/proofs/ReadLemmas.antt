-- Files that the words name, read one after another.
use Rattle.std.proofs.Common.{◌≡◌, ℕ, suc, ◌+◌, ◌<◌, ◌≤◌, nat_lt, nat_le, Bool, true, false, ◌||◌, List, [], ◌∷◌, length, drop, get_or, Option, None, Some, IfSome, Result, Ok, Err, refl, ap, sym, ◌∙◌, subst, add-one, drop-cons, arith, if◌then◌else◌}
use Rattle.std.specs.List.{list_any}
use Rattle.std.specs.Ordering.{nat_cmp, match_ordering}
use Rattle.std.specs.declared.cmp.Ordering.{Ordering}
use Rattle.std.specs.declared.cmp.Ordering.TheVariants.{Less, Equal, Greater}
use Rattle.std.specs.Cmp.Lexicographic.{slice_cmp}
use Rattle.std.proofs.lemmas.Bool.Decides.{nat_tests}
use Rattle.zw_base.specs.Limits.{sizes_of}
use Rattle.zw_base.specs.Outside.{Agrees, file_at}
use Rattle.zw_base.specs.declared.files.Fetched.TheVariants as fetched
use Rattle.zw_base.specs.declared.limits.TheConstants.{FILE_BYTES, FILES, LIMITS}
use Rattle.zw_base.specs.declared.status.Status.{Status}
use Rattle.zw_base.specs.declared.status.Status.TheVariants as status
use Rattle.zw_base.specs.declared.status.Which.{Which}
use Rattle.zw_base.specs.declared.status.Which.TheVariants as which
use Rattle.watch_core.specs.Compile.{Files}
use Rattle.watch_core.specs.SessionState.{with_file, limit_passed}
use Rattle.watch_main.specs.Session.{over, read_then, read_words, unless_over, with_text, with_word}
use Rattle.watch_main.specs.Steps.{RefusesRead}

-- ---- a file that is too long

or_true : (b : Bool) → (b || true) ≡ true
or_true true = refl
or_true false = refl

-- is so among others
long_more : (most : ℕ) (files : Files) (path bytes : List ℕ) → nat_lt most (length bytes) ≡ true → list_any (λ file. nat_lt most file.1) (sizes_of (with_file files path bytes)) ≡ true
long_more most [] path bytes h = rw h refl
long_more most (file ∷ files) path bytes h = step (slice_cmp nat_cmp path file.0) (long_more most files path bytes h)
  where
    step : (o : Ordering) → list_any (λ f. nat_lt most f.1) (sizes_of (with_file files path bytes)) ≡ true
        → list_any (λ f. nat_lt most f.1) (sizes_of (match_ordering o ((path, bytes) ∷ file ∷ files) ((file.0, bytes) ∷ files) (file ∷ with_file files path bytes))) ≡ true
    step Less more = rw h refl
    step Equal more = rw h refl
    step Greater more = rw more (or_true (nat_lt most (length file.1)))

not_full : (m n : ℕ) → (m ≤ n → ⊥) → nat_le m n ≡ false
not_full m n room = tested (nat_le m n) refl
  where
    at_least : nat_le m n ≡ true → m ≤ n
    at_least e = grind (arith, nat_tests)

    tested : (b : Bool) → nat_le m n ≡ b → b ≡ false
    tested true e = absurd (room (at_least e))
    tested false e = refl

-- so it is refused
too_long : (files : Files) (path bytes : List ℕ) (file : Option (List ℕ)) → (FILES ≤ length files → ⊥) → file ≡ Some bytes → FILE_BYTES < length bytes → with_word files path file ≡ over which.FileBytes
too_long files path bytes file room e long =
    let test : nat_lt FILE_BYTES (length bytes) ≡ true = grind (arith, nat_tests) in
    let passed : limit_passed files path bytes ≡ Some which.FileBytes = rw (long_more FILE_BYTES files path bytes test) refl in
    ap (λ (b : Bool). if b then over which.Files else with_text files path file) (not_full FILES (length files) room)
    ∙ ap (with_text files path) e
    ∙ ap (λ (p : Option Which). unless_over p (with_file files path bytes)) passed

pub long_refused : (holds : Option Files) (files : Files) (path key into : List ℕ) (s : Status) → s ≡ status.Limit which.FileBytes FILE_BYTES → key ≡ path → (FILES ≤ length files → ⊥)
    → IfSome holds (λ held. Agrees fetched.TooLong (file_at held key) FILE_BYTES into) → IfSome holds (λ held. RefusesRead s (with_word files path (file_at held path)))
long_refused None files path key into s is same room h = tt
long_refused (Some held) files path key into s is same room h =
    subst (λ (t : Status). RefusesRead t (with_word files path (file_at held path))) (sym is)
    (too_long files path h.0 (file_at held path) room (ap (file_at held) (sym same) ∙ h.1) h.2)

-- ---- one path after another

pub next_read : (held files more : Files) (paths : List (List ℕ)) (i : ℕ) (path : List ℕ) → i < length paths → path ≡ get_or paths i path → with_word files path (file_at held path) ≡ Ok more → read_words held (drop i paths) files ≡ read_words held (drop (i + 1) paths) more
next_read held files more paths i path h is e =
    let here : drop i paths ≡ path ∷ drop (suc i) paths = drop-cons paths i path h ∙ ap (λ (p : List ℕ). p ∷ drop (suc i) paths) (sym is) in
    ap (λ (ps : List (List ℕ)). read_words held ps files) here
    ∙ ap (λ (r : Result Files Status). read_then r (read_words held (drop (suc i) paths))) e
    ∙ ap (λ (n : ℕ). read_words held (drop n paths) more) (sym (add-one i))

pub IfSome-next : (holds now : Option Files) (P Q R : Files → Type 0) → now ≡ holds → ((held : Files) → P held → Q held → R held) → IfSome holds P → IfSome now Q → IfSome holds R
IfSome-next None now P Q R e f p q = tt
IfSome-next (Some held) now P Q R e f p q = f held p (subst (λ (o : Option Files). IfSome o Q) e q)
