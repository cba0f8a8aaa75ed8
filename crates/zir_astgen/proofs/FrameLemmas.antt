-- Frames as lines are added, and the steps of an exit.
use Rattle.std.proofs.Common.{◌≡◌, ℕ, ◌+◌, ◌<◌, ◌≤◌, List, [], ◌∷◌, ◌++◌, length, map, refl, sym, ◌∙◌, ap, arith, Option, Some, None, Bool, true, false, if◌then◌else◌, append_assoc, add_assoc, add-zero, zero-add}
use Rattle.std.specs.Prelude.{slice_get, take}
use Rattle.std.proofs.lemmas.List.{append-nil}
use Rattle.zir_form.specs.Core.{Core}
use Rattle.zir_form.specs.Core as core
use Rattle.zir_form.specs.Lines.{core_at, over_cores, tree_at, trees_of}
use Rattle.zir_form.specs.declared.form.Form.{Form}
use Rattle.zir_form.specs.declared.form.Form.TheVariants as form
use Rattle.zir_astgen.specs.declared.levels.Frame.{Frame}
use Rattle.zir_astgen.specs.declared.levels.Frames.{Frames, Outside, Within'}
use Rattle.zir_astgen.specs.declared.levels.Step.{Step}
use Rattle.zir_astgen.specs.declared.levels.Step.TheVariants as step
use Rattle.zir_astgen.specs.Firsts.{Adds, Grows}
use Rattle.zir_astgen.specs.Frames.{level_of, levels_of, stepped, FramesBelow, exit_after}
use Rattle.zir_astgen.specs.Levels.{Exit, Level, ends_here, exit_from, is_absent, left, out_of, passing, put_off, put_off_in}
use Rattle.zir_form.proofs.LineLemmas.{line_tree}
use Rattle.zir_astgen.proofs.AddLemmas.{grown, grows_more, longer, tree_stays}

-- ---- as lines are added

pub frames_below_more : (n m : ℕ) (frames : Frames) → n ≤ m → FramesBelow n frames → FramesBelow m frames
frames_below_more n m Outside le h = tt
frames_below_more n m (Within' f p outer) le h =
    let d : f.defers < n = h.0 in
    let a : f.all < n = h.1 in
    (omega (arith, d, le), omega (arith, a, le), frames_below_more n m outer le h.2)

pub frames_below_stay : (old now : List Core) (frames : Frames) → Grows old now → FramesBelow (length old) frames → FramesBelow (length now) frames
frames_below_stay old now frames g h = frames_below_more (length old) (length now) frames (longer old now g) h

-- the levels that frames stand for stay
pub levels_stay : (old now : List Core) (frames : Frames) → Grows old now → FramesBelow (length old) frames → levels_of now frames ≡ levels_of old frames
levels_stay old now Outside g h = refl
levels_stay old now (Within' f p outer) g h =
    let one : level_of now f ≡ level_of old f =
    ap (λ (c : Core). record { layer = f.layer; defers = c; all = tree_at now f.all }) (tree_stays old now f.defers g h.0)
    ∙ ap (λ (c : Core). record { layer = f.layer; defers = tree_at old f.defers; all = c }) (tree_stays old now f.all g h.1) in
    ap (λ (l : Level). l ∷ levels_of now outer) one ∙ ap (λ (ls : List Level). level_of old f ∷ ls) (levels_stay old now outer g h.2)

-- ---- what is left out

pub absent_form : (at : ℕ → Core) (f : Form) → (f ≡ form.Absent → ⊥) → is_absent (over_cores at f) ≡ false
unfolding over_cores
absent_form at form.Absent h = absurd (h refl)
absent_form at _ h = refl

pub absent_is : (at : ℕ → Core) (f : Form) → f ≡ form.Absent → is_absent (over_cores at f) ≡ true
unfolding over_cores
absent_is at f e = ap (λ (x : Form). is_absent (over_cores at x)) e

pub absent_line : (lines : List Form) (n : ℕ) (f : Form) (b : Bool) → Some f ≡ slice_get lines n → ((at : ℕ → Core) → is_absent (over_cores at f) ≡ b)
    → b ≡ is_absent (tree_at (trees_of lines) n)
unfolding core_at
absent_line lines n f b e h = sym (ap (λ (c : Core). is_absent c) (line_tree lines n (Some f) (sym e)) ∙ h (tree_at (take n (trees_of lines))))

pub absent_past : (lines : List Form) (n : ℕ) → None ≡ slice_get lines n → false ≡ is_absent (tree_at (trees_of lines) n)
unfolding core_at
absent_past lines n e = sym (ap (λ (c : Core). is_absent c) (line_tree lines n None (sym e)))

-- ---- the steps of an exit

pub exit_start : (e : Option Exit) → exit_after 0 [] e ≡ e
exit_start None = refl
exit_start (Some e) = ap (λ (n : ℕ). Some (record { target = n; leaves = e.leaves })) (zero-add e.target)

left_front : (run : Core) (done more : List Core) → done ++ left run more ≡ (done ++ left run []) ++ more
left_front run done more = by (is_absent run) refl
  where
    by : (b : Bool) → is_absent run ≡ b → done ++ left run more ≡ (done ++ left run []) ++ more
    by true e = rw e (sym (ap (λ (l : List Core). l ++ more) (append-nil done)))
    by false e = rw e (sym (append_assoc done (run ∷ []) more))

pub exit_past : (count more : ℕ) (run : Core) (done : List Core) (e : Option Exit)
    → exit_after count done (passing more run e) ≡ exit_after (count + more) (done ++ left run []) e
exit_past count more run done None = refl
exit_past count more run done (Some e) =
    ap (λ (n : ℕ). Some (record { target = n; leaves = done ++ left run e.leaves })) (sym (add_assoc count more e.target))
    ∙ ap (λ (l : List Core). Some (record { target = count + more + e.target; leaves = l })) (left_front run done e.leaves)

pub exit_here : (count : ℕ) (run : Core) (done : List Core)
    → exit_after count done (ends_here run) ≡ Some (record { target = count; leaves = done ++ left run [] })
exit_here count run done = ap (λ (n : ℕ). Some (record { target = n; leaves = done ++ left run [] })) (add-zero count)

-- a frame that an exit passes
pub exit_further : (on : Bool) (label : Option ℕ) (trees : List Core) (f : Frame) (outer : List Level) (n count now : ℕ) (leaves after : List ℕ) (s : Step) (all : Option Exit)
    → ((l : Level) → (e : Option Exit) → out_of on label l f.layer e ≡ stepped s l.defers e) → s ≡ step.Past count
    → map (tree_at trees) after ≡ map (tree_at trees) leaves ++ left (tree_at trees f.defers) [] → now ≡ n + count
    → exit_after n (map (tree_at trees) leaves) (exit_from on label (level_of trees f ∷ outer)) ≡ all
    → exit_after now (map (tree_at trees) after) (exit_from on label outer) ≡ all
unfolding exit_from
exit_further on label trees f outer n count now leaves after s all h is more sum so_far =
    let run : Core = tree_at trees f.defers in
    let done : List Core = map (tree_at trees) leaves in
    let far : Option Exit = exit_from on label outer in
    ap (λ (k : ℕ). exit_after k (map (tree_at trees) after) far) sum
    ∙ ap (λ (l : List Core). exit_after (n + count) l far) more
    ∙ sym (exit_past n count run done far)
    ∙ ap (λ (x : Step). exit_after n done (stepped x run far)) (sym is)
    ∙ ap (exit_after n done) (sym (h (level_of trees f) far))
    ∙ so_far

-- one where it goes
pub exit_found : (on : Bool) (label : Option ℕ) (trees : List Core) (f : Frame) (outer : List Level) (n : ℕ) (leaves after : List ℕ) (s : Step) (all : Option Exit)
    → ((l : Level) → (e : Option Exit) → out_of on label l f.layer e ≡ stepped s l.defers e) → s ≡ step.Here
    → map (tree_at trees) after ≡ map (tree_at trees) leaves ++ left (tree_at trees f.defers) []
    → exit_after n (map (tree_at trees) leaves) (exit_from on label (level_of trees f ∷ outer)) ≡ all
    → Some (record { target = n; leaves = map (tree_at trees) after }) ≡ all
unfolding exit_from
exit_found on label trees f outer n leaves after s all h is more so_far =
    let run : Core = tree_at trees f.defers in
    let done : List Core = map (tree_at trees) leaves in
    let far : Option Exit = exit_from on label outer in
    ap (λ (l : List Core). Some (record { target = n; leaves = l })) more
    ∙ sym (exit_here n run done)
    ∙ ap (λ (x : Step). exit_after n done (stepped x run far)) (sym is)
    ∙ ap (exit_after n done) (sym (h (level_of trees f) far))
    ∙ so_far

-- and one that it does not get out of
pub exit_barred : (on : Bool) (label : Option ℕ) (trees : List Core) (f : Frame) (outer : List Level) (n : ℕ) (done : List Core) (s : Step) (all : Option Exit)
    → ((l : Level) → (e : Option Exit) → out_of on label l f.layer e ≡ stepped s l.defers e) → s ≡ step.Nowhere
    → exit_after n done (exit_from on label (level_of trees f ∷ outer)) ≡ all → None ≡ all
unfolding exit_from
exit_barred on label trees f outer n done s all h is so_far =
    let run : Core = tree_at trees f.defers in
    let far : Option Exit = exit_from on label outer in
    ap (λ (x : Step). exit_after n done (stepped x run far)) (sym is)
    ∙ ap (exit_after n done) (sym (h (level_of trees f) far))
    ∙ so_far

-- ---- what is put off

pub when_true : (b : Bool) (x y : Core) → b ≡ true → x ≡ (if b then x else y)
when_true b x y e = ap (λ (c : Bool). if c then x else y) (sym e)

pub put_off_step : (a b c : List Core) (always : Bool) (run : ℕ) (f : Frame) (outer : Frames) (d e : ℕ) → run < length a → f.all < length a → FramesBelow (length a) outer
    → Adds a b (if always then core.runs (tree_at a run) (tree_at a f.defers) else tree_at a f.defers) d → Adds b c (core.runs (tree_at b run) (tree_at b f.all)) e
    → Grows a c × ((d < length c) × (e < length c) × FramesBelow (length c) outer)
    × (level_of c (record { layer = f.layer; defers = d; all = e }) ∷ levels_of c outer ≡ put_off_in always (tree_at a run) (level_of a f ∷ levels_of a outer))
put_off_step a b c always run f outer d e inside all below first second =
    let ab : Grows a b = grown a b _ d first in
    let bc : Grows b c = grown b c _ e second in
    let ac : Grows a c = grows_more a b c ab bc in
    let le : length b ≤ length c = longer b c bc in
    let i : d < length b = first.inside in
    let x : tree_at c d ≡ (if always then core.runs (tree_at a run) (tree_at a f.defers) else tree_at a f.defers) = tree_stays b c d bc i ∙ first.stands in
    let y : tree_at c e ≡ core.runs (tree_at a run) (tree_at a f.all) =
    second.stands ∙ ap (λ (t : Core). core.runs t (tree_at b f.all)) (tree_stays a b run ab inside) ∙ ap (λ (t : Core). core.runs (tree_at a run) t) (tree_stays a b f.all ab all) in
    let at : level_of c (record { layer = f.layer; defers = d; all = e }) ≡ put_off always (tree_at a run) (level_of a f) =
    ap (λ (t : Core). record { layer = f.layer; defers = t; all = tree_at c e }) x
    ∙ ap (λ (t : Core). record { layer = f.layer; defers = (if always then core.runs (tree_at a run) (tree_at a f.defers) else tree_at a f.defers); all = t }) y
    ∙ both always (tree_at a run) (level_of a f) in (
      ac,
      (omega (arith, le, i), second.inside, frames_below_stay a c outer ac below),
      ap (λ (l : Level). l ∷ levels_of c outer) at ∙ ap (λ (ls : List Level). put_off always (tree_at a run) (level_of a f) ∷ ls) (levels_stay a c outer ac below),
    )
  where
    both : (b : Bool) (r : Core) (l : Level)
        → record { layer = l.layer; defers = (if b then core.runs r l.defers else l.defers); all = core.runs r l.all } ≡ put_off b r l
    both true r l = refl
    both false r l = refl
