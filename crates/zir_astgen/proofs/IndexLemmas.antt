-- Maps beside lists, as the lists are read.
use Rattle.std.proofs.Common.{◌≡◌, ℕ, ◌+◌, ◌-◌, ◌<◌, ◌≤◌, length, take, drop, get_or, Bool, true, false, if◌then◌else◌, cond, List, [], ◌∷◌, ◌++◌, append_assoc, Option, Some, None, refl, sym, ap, ◌∙◌, arith, nat_eq, Vec}
use Rattle.std.proofs.lemmas.Bool.Decides.{nat_tests}
use Rattle.std.proofs.lemmas.List.{append-nil, take_rest}
use Rattle.std.specs.List.{position_from}
use Rattle.std.specs.Option.{option_or}
use Rattle.std.specs.BTreeMap.{BTreeMap, IsEmpty, UpdatesBy, get, is_at}
use Rattle.std.specs.Map.{lookup}
use Rattle.std.specs.Ordering.{nat_cmp}
use Rattle.std.specs.declared.alloc.Global.{Global}
use Rattle.zir_form.proofs.MapLemmas.{cmp_test}
use Rattle.zir_scope.specs.declared.captures.Capture.{Capture}
use Rattle.zir_scope.specs.declared.event.Event.{Event}
use Rattle.zir_scope.specs.declared.event.Target.{Target}
use Rattle.zir_astgen.specs.Indexed.{items_of}
use Rattle.zir_astgen.specs.Site.{captures_from, mention_at, mentioned}

pub get-empty : {X : Type 0} (m : BTreeMap ℕ X) (q : ℕ) → IsEmpty m → get nat_cmp m q ≡ None
get-empty {X} m q e = ap (λ (es : List (ℕ × X)). lookup (is_at (nat_cmp q)) es) e

pub get-updated : {X : Type 0} (k : ℕ) (v : X) (old new : BTreeMap ℕ X) → UpdatesBy nat_cmp (nat_cmp k) old new (Some v)
    → (q : ℕ) → get nat_cmp new q ≡ cond (nat_eq k q) (Some v) (get nat_cmp old q)
get-updated k v old new h q = h.0 q ∙ ap (λ b. cond b (Some v) (get nat_cmp old q)) (cmp_test k q)

-- choices
pub choice : {X : Type 0} (b : Bool) (v : X) (o : Option X) → cond b (Some v) o ≡ option_or (if b then Some v else None) o
choice true v o = refl
choice false v o = refl

pub or_none : {X : Type 0} (a : Option X) → option_or a None ≡ a
or_none None = refl
or_none (Some x) = refl

pub or_again : {X : Type 0} (a b c : Option X) → option_or (option_or a b) c ≡ option_or a (option_or b c)
or_again None b c = refl
or_again (Some x) b c = refl

same_number : (a b : ℕ) → nat_eq a b ≡ true → a ≡ b
same_number a b e = grind (arith, nat_tests)

turned : (a b : ℕ) → nat_eq a b ≡ nat_eq b a
turned a b = grind (arith, nat_tests)

-- ---- places

pub entered_first : (k at : ℕ) (old new : BTreeMap ℕ ℕ) → get nat_cmp old k ≡ None → UpdatesBy nat_cmp (nat_cmp k) old new (Some at)
    → (q : ℕ) → get nat_cmp new q ≡ option_or (get nat_cmp old q) (if nat_eq q k then Some at else None)
entered_first k at old new e h q = get-updated k at old new h q ∙ by_test (nat_eq k q) refl
  where
    by_test : (b : Bool) → nat_eq k q ≡ b → cond b (Some at) (get nat_cmp old q) ≡ option_or (get nat_cmp old q) (if nat_eq q k then Some at else None)
    by_test true t =
        let none : get nat_cmp old q ≡ None = ap (λ (x : ℕ). get nat_cmp old x) (sym (same_number k q t)) ∙ e in
        sym (ap (λ o. option_or o (if nat_eq q k then Some at else None)) none ∙ ap (λ b. if b then Some at else None) (turned q k ∙ t))
    by_test false t = sym (ap (λ b. option_or (get nat_cmp old q) (if b then Some at else None)) (turned q k ∙ t) ∙ or_none (get nat_cmp old q))

pub kept_first : (k at v : ℕ) (old : BTreeMap ℕ ℕ) → get nat_cmp old k ≡ Some v
    → (q : ℕ) → get nat_cmp old q ≡ option_or (get nat_cmp old q) (if nat_eq q k then Some at else None)
kept_first k at v old e q = by_test (nat_eq k q) refl
  where
    by_test : (b : Bool) → nat_eq k q ≡ b → get nat_cmp old q ≡ option_or (get nat_cmp old q) (if nat_eq q k then Some at else None)
    by_test true t =
        let some : get nat_cmp old q ≡ Some v = ap (λ (x : ℕ). get nat_cmp old x) (sym (same_number k q t)) ∙ e in
        some ∙ sym (ap (λ o. option_or o (if nat_eq q k then Some at else None)) some)
    by_test false t = sym (ap (λ b. option_or (get nat_cmp old q) (if b then Some at else None)) (turned q k ∙ t) ∙ or_none (get nat_cmp old q))

-- what is left of a list behind its first, as a loop has it
abbrev pub behind : {X : Type 0} → List X → List X
behind xs = take (length xs - 1) (drop 1 xs)

pub behind_first : {X : Type 0} (x : X) (xs : List X) → behind (x ∷ xs) ≡ xs
behind_first x xs = take_rest (x ∷ xs) 1

step_at : (at j q number : ℕ) (more : List ℕ) (had now all : Option ℕ) → j ≡ at + 1 → now ≡ option_or had (if nat_eq q number then Some at else None)
    → option_or had (position_from (nat_eq q) at (number ∷ more)) ≡ all → option_or now (position_from (nat_eq q) j more) ≡ all
step_at at j q number more had now all s e h =
    ap (λ (n : ℕ). option_or now (position_from (nat_eq q) n more)) s
    ∙ ap (λ o. option_or o (position_from (nat_eq q) (at + 1) more)) e
    ∙ or_again had (if nat_eq q number then Some at else None) (position_from (nat_eq q) (at + 1) more)
    ∙ ap (option_or had) (sym (choice (nat_eq q number) at (position_from (nat_eq q) (at + 1) more)))
    ∙ h

pub place_step : (at j q : ℕ) (rest : List ℕ) (had now all : Option ℕ) → 1 ≤ length rest → j ≡ at + 1 → now ≡ option_or had (if nat_eq q (get_or rest 0 0) then Some at else None)
    → option_or had (position_from (nat_eq q) at rest) ≡ all → option_or now (position_from (nat_eq q) j (behind rest)) ≡ all
place_step at j q [] had now all le s e h = absurd (omega (arith, le))
place_step at j q (number ∷ more) had now all le s e h =
    ap (λ (l : List ℕ). option_or now (position_from (nat_eq q) j l)) (behind_first number more) ∙ step_at at j q number more had now all s e h

pub place_done : (at q : ℕ) (rest : List ℕ) (had all : Option ℕ) → length rest < 1 → option_or had (position_from (nat_eq q) at rest) ≡ all → had ≡ all
place_done at q [] had all lt h = sym (or_none had) ∙ h
place_done at q (number ∷ more) had all lt h = absurd (omega (arith, lt))

-- ---- what names stand for

pub entered_target : (u : ℕ) (to : Target) (old new : BTreeMap ℕ Target) → UpdatesBy nat_cmp (nat_cmp u) old new (Some to)
    → (q : ℕ) → get nat_cmp new q ≡ option_or (if nat_eq u q then Some to else None) (get nat_cmp old q)
entered_target u to old new h q = get-updated u to old new h q ∙ choice (nat_eq u q) to (get nat_cmp old q)

pub target_step : (q : ℕ) (rest : List Event) (none : Event) (had now all : Option Target) → 1 ≤ length rest → now ≡ option_or (mention_at q (get_or rest 0 none)) had
    → option_or (mentioned rest q) had ≡ all → option_or (mentioned (behind rest) q) now ≡ all
unfolding mentioned
target_step q [] none had now all le n h = absurd (omega (arith, le))
target_step q (x ∷ more) none had now all le n h =
    ap (λ (l : List Event). option_or (mentioned l q) now) (behind_first x more)
    ∙ ap (option_or (mentioned more q)) n ∙ sym (or_again (mentioned more q) (mention_at q x) had) ∙ h

pub target_done : (q : ℕ) (rest : List Event) (had all : Option Target) → length rest < 1 → option_or (mentioned rest q) had ≡ all → had ≡ all
unfolding mentioned
target_done q [] had all lt h = h
target_done q (x ∷ more) had all lt h = absurd (omega (arith, lt))

pub target_begun : (q : ℕ) (events : List Event) (had : Option Target) → had ≡ None → option_or (mentioned events q) had ≡ mentioned events q
target_begun q events had e = ap (option_or (mentioned events q)) e ∙ or_none (mentioned events q)

-- ---- locals of containers

abbrev pub Locals : Type 0
Locals = BTreeMap ℕ (Vec ℕ Global)

-- the locals of a container are taken out, given one more, and put back
pub entered : (k one : ℕ) (old mid new : Locals) (before after : Vec ℕ Global)
    → before.items ≡ items_of (get nat_cmp old k)
    → ((q : ℕ) → nat_eq k q ≡ false → get nat_cmp mid q ≡ get nat_cmp old q)
    → after.items ≡ before.items ++ one ∷ []
    → UpdatesBy nat_cmp (nat_cmp k) mid new (Some after)
    → (q : ℕ) → items_of (get nat_cmp new q) ≡ items_of (get nat_cmp old q) ++ (if nat_eq k q then one ∷ [] else [])
entered k one old mid new before after taken others given h q =
    ap items_of (get-updated k after mid new h q) ∙ by_test (nat_eq k q) refl
  where
    by_test : (b : Bool) → nat_eq k q ≡ b → items_of (cond b (Some after) (get nat_cmp mid q)) ≡ items_of (get nat_cmp old q) ++ (if b then one ∷ [] else [])
    by_test true t = given ∙ ap (λ (l : List ℕ). l ++ one ∷ []) (taken ∙ ap (λ (x : ℕ). items_of (get nat_cmp old x)) (same_number k q t))
    by_test false t = ap items_of (others q t) ∙ sym (append-nil (items_of (get nat_cmp old q)))

pub locals_step : (q : ℕ) (rest : List Capture) (none : Capture) (had now all : List ℕ) → 1 ≤ length rest
    → now ≡ had ++ (if nat_eq (get_or rest 0 none).container q then (get_or rest 0 none).local ∷ [] else [])
    → had ++ captures_from q rest ≡ all → now ++ captures_from q (behind rest) ≡ all
unfolding captures_from
locals_step q [] none had now all le n h = absurd (omega (arith, le))
locals_step q (y ∷ more) none had now all le n h =
    ap (λ (l : List Capture). now ++ captures_from q l) (behind_first y more)
    ∙ ap (λ (l : List ℕ). l ++ captures_from q more) n
    ∙ append_assoc had (if nat_eq y.container q then y.local ∷ [] else []) (captures_from q more)
    ∙ ap (λ (l : List ℕ). had ++ l) (one_more (nat_eq y.container q) y.local (captures_from q more))
    ∙ h
  where
    one_more : (b : Bool) (l : ℕ) (ls : List ℕ) → (if b then l ∷ [] else []) ++ ls ≡ (if b then l ∷ ls else ls)
    one_more true l ls = refl
    one_more false l ls = refl

pub locals_done : (q : ℕ) (rest : List Capture) (had all : List ℕ) → length rest < 1 → had ++ captures_from q rest ≡ all → had ≡ all
unfolding captures_from
locals_done q [] had all lt h = sym (append-nil had) ∙ h
locals_done q (x ∷ more) had all lt h = absurd (omega (arith, lt))
