-- The cycles that marks tell are those of the definition.
use Rattle.std.proofs.Common.{◌≡◌, ℕ, zero, suc, ◌+◌, ◌<◌, ◌↔◌, List, [], ◌∷◌, ◌++◌, Option, Some, None, Bool, true, false, length, get_or, map, flat_map, refl, sym, ap, subst, ◌∙◌, arith}
use Rattle.std.specs.Prelude.{slice_get, slice_index_or, if◌then◌else◌}
use Rattle.std.specs.List.{cons_option}
use Rattle.std.specs.Bool.{Decides}
use Rattle.std.specs.Option.{option_and_then, option_flatten, option_map}
use Rattle.std.proofs.lemmas.Bool.{ltb-true, lt-ltb}
use Rattle.std.proofs.lemmas.Bool.Decides.{same_from_decides}
use Rattle.std.proofs.lemmas.List.{length-map}
use Rattle.std.proofs.lemmas.Option.{cond_some, same_Some, slice_get-map, slice_get-get_or}
use Rattle.pointer_cycles.specs.Cycles.{IsLeastOfCycle, MarksLeast, PointsTo, is_before, text_of}
use Rattle.pointer_cycles.specs.Shown.{is_shown}
use Rattle.pointer_cycles.proofs.Shown.{shown-decides}
use Rattle.zw_base.specs.declared.diag.Found.{Found}
use Rattle.unit_reports.specs.declared.report.UnitReport.{UnitReport}
use Rattle.unit_reports.specs.declared.report.UnitReport.TheVariants.{Silent, Failed, Code, Waits}
use Rattle.unit_reports.specs.Told.{failure_in, is_least_of_loop, known_unit, loop_in, loops_from, next_at, next_in, text_at, text_in, text_of_some, told_founds}
use Rattle.unit_reports.specs.Parts.{by_mark, waiting_found, marked_founds}

-- ---- the table of reports

known-points : (len j : ℕ) (p : Option (Option ℕ)) → option_and_then (known_unit len) (option_flatten p) ≡ Some j → (p ≡ Some (Some j)) × (j < len)
known-points len j None e = cc
known-points len j (Some None) e = cc
known-points len j (Some (Some k)) e =
    let parts = cond_some _ k j e in
    (ap (λ n. Some (Some n)) parts.1, subst (λ n. n < len) parts.1 (ltb-true k len parts.0))

points-known : (len j : ℕ) → j < len → known_unit len j ≡ Some j
points-known len j low = ap (λ b. if b then Some j else None) (lt-ltb j len low)

flattened : (o : Option UnitReport) → option_and_then next_in o ≡ option_flatten (option_map next_in o)
flattened None = refl
flattened (Some r) = refl

next-known : (reports : List UnitReport) (i : ℕ) → next_at reports i ≡ option_and_then (known_unit (length reports)) (option_flatten (slice_get (map next_in reports) i))
unfolding next_at
next-known reports i =
    ap (option_and_then (known_unit (length reports)))
    (flattened (slice_get reports i) ∙ ap option_flatten (sym (slice_get-map next_in reports i)))

-- who waits points in the table
next-points : (reports : List UnitReport) (i j : ℕ) → (next_at reports i ≡ Some j) ↔ PointsTo (map next_in reports) i j
next-points reports i j = (
  λ e.
      let p = known-points (length reports) j (slice_get (map next_in reports) i) (sym (next-known reports i) ∙ e) in
      (p.0, subst (λ n. j < n) (sym (length-map reports next_in)) p.1),
  λ p.
      next-known reports i ∙ ap (λ o. option_and_then (known_unit (length reports)) (option_flatten o)) p.0
      ∙ points-known (length reports) j (subst (λ n. j < n) (length-map reports next_in) p.1),
)

text-some : (reports : List UnitReport) (i : ℕ) → slice_index_or (map text_in reports) i [] ≡ text_of_some (slice_get reports i)
text-some [] i = refl
text-some (r ∷ rs) zero = refl
text-some (r ∷ rs) (suc i) = text-some rs i

text-told : (reports : List UnitReport) (i : ℕ) → text_of (map text_in reports) i ≡ text_at reports i
unfolding text_at
text-told reports i = text-some reports i

-- ---- the marks

least-like : (next : List (Option ℕ)) (f g : ℕ → List ℕ) → ((i : ℕ) → f i ≡ g i) → (i : ℕ) → IsLeastOfCycle next f i → IsLeastOfCycle next g i
least-like next f g same i t = (
  t.0,
  λ n j leads. ap (λ x. is_before x (g i)) (sym (same j)) ∙ ap (is_before (f j)) (sym (same i)) ∙ t.1 n j leads,
)

loop-decides : (reports : List UnitReport) (i : ℕ) → i < length reports → Decides (is_least_of_loop reports i) (IsLeastOfCycle (map next_in reports) (text_at reports) i)
unfolding is_least_of_loop
loop-decides reports i low =
    let size = length-map reports next_in in
    subst (λ n. Decides (is_shown (next_at reports) (text_at reports) n i) (IsLeastOfCycle (map next_in reports) (text_at reports) i)) size
    (shown-decides (map next_in reports) (next_at reports) (text_at reports) (λ u v _. next-points reports u v) i (subst (λ n. i < n) (sym size) low))

mark-decides : (reports : List UnitReport) (marks : List Bool) → MarksLeast (map next_in reports) (map text_in reports) marks → (i : ℕ) (b : Bool) → slice_get marks i ≡ Some b → Decides b (IsLeastOfCycle (map next_in reports) (text_at reports) i)
mark-decides reports marks m i b is =
    let next = map next_in reports in
    let text = text_of (map text_in reports) in (
      λ e. least-like next text (text_at reports) (text-told reports) i ((m.least i).0 (is ∙ ap (λ x. Some x) e)),
      λ t. same_Some b true (sym is ∙ (m.least i).1 (least-like next (text_at reports) text (λ k. sym (text-told reports k)) i t)),
    )

-- each unit has the mark that says whether it is told for its cycle
pub marked : (reports : List UnitReport) (marks : List Bool) → MarksLeast (map next_in reports) (map text_in reports) marks → (i : ℕ) → i < length reports → slice_get marks i ≡ Some (is_least_of_loop reports i)
marked reports marks m i low =
    let is = slice_get-get_or marks i false (subst (λ n. i < n) (sym (m.one_for_each ∙ length-map reports next_in)) low) in
    is ∙ ap (λ b. Some b)
    (same_from_decides (get_or marks i false) (is_least_of_loop reports i)
    (mark-decides reports marks m i (get_or marks i false) is) (loop-decides reports i low))

-- ---- what is told by marks

one-told : (r : UnitReport) (b : Bool) (rest : List Found) → cons_option (by_mark (waiting_found r, b)) rest ≡ (if b then loop_in r else []) ++ rest
one-told (Waits w) true rest = refl
one-told (Waits w) false rest = refl
one-told Silent true rest = refl
one-told Silent false rest = refl
one-told (Failed f) true rest = refl
one-told (Failed f) false rest = refl
one-told (Code f) true rest = refl
one-told (Code f) false rest = refl

told-from : (all : List UnitReport) (i : ℕ) (rs : List UnitReport) (marks : List Bool) → ((k : ℕ) → k < length rs → slice_get marks k ≡ Some (is_least_of_loop all (i + k))) → marked_founds (map waiting_found rs) marks ≡ loops_from all i rs
told-from all i [] marks each = refl
told-from all i (r ∷ rs) [] each = absurd (let first = each 0 (omega arith) in cc)
told-from all i (r ∷ rs) (b ∷ bs) each =
    let first : b ≡ is_least_of_loop all i = same_Some b (is_least_of_loop all i) (each 0 (omega arith) ∙ ap (λ n. Some (is_least_of_loop all n)) (let z : i + 0 ≡ i = omega arith in z)) in
    one-told r b (marked_founds (map waiting_found rs) bs)
    ∙ ap (λ x. (if x then loop_in r else []) ++ marked_founds (map waiting_found rs) bs) first
    ∙ ap (λ fs. (if is_least_of_loop all i then loop_in r else []) ++ fs)
    (told-from all (suc i) rs bs
    (λ k low. each (suc k) (omega arith) ∙ ap (λ n. Some (is_least_of_loop all n)) (let z : i + suc k ≡ suc i + k = omega arith in z)))

-- the marked units are told, and no other
pub loops-told : (reports : List UnitReport) (marks : List Bool) → MarksLeast (map next_in reports) (map text_in reports) marks → marked_founds (map waiting_found reports) marks ≡ loops_from reports 0 reports
loops-told reports marks m =
    told-from reports 0 reports marks
    (λ k low. marked reports marks m k low ∙ ap (λ n. Some (is_least_of_loop reports n)) (let z : k ≡ 0 + k = omega arith in z))

-- all diagnostics, from the parts of the reports
pub founds-told : (reports : List UnitReport) (failures : List Found) (next : List (Option ℕ)) (texts : List (List ℕ)) (loops : List (Option Found)) (marks : List Bool) → failures ≡ flat_map failure_in reports → next ≡ map next_in reports → texts ≡ map text_in reports → loops ≡ map waiting_found reports → MarksLeast next texts marks → failures ++ marked_founds loops marks ≡ told_founds reports
unfolding told_founds
founds-told reports failures next texts loops marks f n t l m =
    let of_next = subst (λ ns. MarksLeast ns texts marks) n m in
    let of_texts = subst (λ ts. MarksLeast (map next_in reports) ts marks) t of_next in
    ap (λ fs. fs ++ marked_founds loops marks) f
    ∙ ap (λ os. flat_map failure_in reports ++ marked_founds os marks) l
    ∙ ap (λ fs. flat_map failure_in reports ++ fs) (loops-told reports marks of_texts)
