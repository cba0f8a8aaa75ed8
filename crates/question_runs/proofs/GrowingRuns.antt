-- A run with more answers goes on in the moves of the run with fewer.
use Rattle.std.proofs.Common.{◌≡◌, Bool, true, false, List, [], ◌∷◌, ◌++◌, Option, Some, None, refl, sym, ap, ◌∙◌, subst, inl, inr}
use Rattle.question_runs.specs.Programs.{Prog, done, ask, refer}
use Rattle.question_runs.specs.Runs.{Move, asked, referred, Run, ends, fails, stops, goes, Setting, recall, unless, hears, run, trace_of, Asks, Answers, Gives, IsRunOf, stop_of}
use Rattle.question_runs.specs.RunLaws.{Lower, AsksFirst, Continues}

-- each answer that `few` has to a question of the run is the one that `more` has
abbrev pub Agrees : {Q A U R : Type 0} → (Q → Option A) → (Q → Option A) → Run Q A U R → Type 0
Agrees {Q} {A} few more r = (q : Q) (a : A) → Asks r q → few q ≡ Some a → more q ≡ Some a

continues-unless : {Q A U R : Type 0} (few more : Q → Option A) (b : Bool) (r r' : Run Q A U R) → (Agrees few more r' → Continues r r') → Agrees few more (unless b r') → Continues (unless b r) (unless b r')
continues-unless few more true r r' step w = refl
continues-unless few more false r r' step w = step w

hears-asks : {Q A U R : Type 0} (s : Setting Q A) (moves : List (Move Q A U)) (q : Q) (hand : Option A) (rest : A → List (Move Q A U) → Run Q A U R) → AsksFirst (hears s moves q None hand rest) q
hears-asks s moves q None rest = refl
hears-asks s moves q (Some a) rest = refl

continues-hears : {Q A U R : Type 0} (s : Setting Q A) (few more : Q → Option A) (moves : List (Move Q A U)) (q : Q) (before by_few by_more : Option A) → few q ≡ by_few → more q ≡ by_more → (rest rest' : A → List (Move Q A U) → Run Q A U R) → ((a : A) (now : List (Move Q A U)) → Agrees few more (rest' a now) → Continues (rest a now) (rest' a now)) → Agrees few more (hears s moves q before by_more rest') → Continues (hears s moves q before by_few rest) (hears s moves q before by_more rest')
continues-hears s few more moves q (Some a) by_few by_more e e' rest rest' step w = continues-unless few more (s.failing a) (rest a moves) (rest' a moves) (step a moves) w
continues-hears s few more moves q None None by_more e e' rest rest' step w = hears-asks s moves q by_more rest'
continues-hears s few more moves q None (Some a) None e e' rest rest' step w = let here : more q ≡ Some a = w q a refl e in absurd (cc)
continues-hears {Q} {A} {U} {R} s few more moves q None (Some a) (Some b) e e' rest rest' step w =
    let here : more q ≡ Some a = w q a (inl refl) e in
    let is : b ≡ a = cc in
    let goes_on : A → Run Q A U R = λ x. goes (asked q x) (unless (s.failing x) (rest' x (moves ++ asked q x ∷ []))) in
    let w' : Agrees few more (goes_on a) = subst (λ x. Agrees few more (goes_on x)) is w in
    let first : Continues (hears s moves q None (Some a) rest) (goes_on a) = (unless (s.failing a) (rest' a (moves ++ asked q a ∷ [])), (refl, continues-unless few more (s.failing a) (rest a (moves ++ asked q a ∷ [])) (rest' a (moves ++ asked q a ∷ [])) (step a (moves ++ asked q a ∷ [])) (λ p c asks. w' p c (inr asks)))) in
    subst (λ x. Continues (hears s moves q None (Some a) rest) (goes_on x)) (sym is) first

pub continues-run : {Q A U R : Type 0} (s : Setting Q A) (few more : Q → Option A) (p : Prog Q A U R) (moves : List (Move Q A U)) → Agrees few more (run s more moves p) → Continues (run s few moves p) (run s more moves p)
continues-run s few more (done r) moves w = refl
continues-run s few more (ask q rest) moves w = continues-hears s few more moves q (recall s.same moves q) (few q) (more q) refl refl (λ a now. run s few now (rest a)) (λ a now. run s more now (rest a)) (λ a now. continues-run s few more (rest a) now) w
continues-run s few more (refer u p) moves w = (run s more (moves ++ referred u ∷ []) p, (refl, continues-run s few more p (moves ++ referred u ∷ []) w))

-- a run whose answers are at hand is a first part of the run now
gives-unless : {Q A U R : Type 0} (given : Q → Option A) (b : Bool) (r r' : Run Q A U R) → (Gives given (trace_of r) → Continues r r') → Gives given (trace_of (unless b r)) → Continues (unless b r) (unless b r')
gives-unless given true r r' step w = refl
gives-unless given false r r' step w = step w

gives-hears : {Q A U R : Type 0} (s : Setting Q A) (given : Q → Option A) (moves : List (Move Q A U)) (q : Q) (before hand : Option A) → (rest rest' : A → List (Move Q A U) → Run Q A U R) → ((a : A) (now : List (Move Q A U)) → Gives given (trace_of (rest a now)) → Continues (rest a now) (rest' a now)) → Gives given (trace_of (hears s moves q before hand rest)) → Continues (hears s moves q before hand rest) (hears s moves q before (given q) rest')
gives-hears s given moves q (Some a) hand rest rest' step w = gives-unless given (s.failing a) (rest a moves) (rest' a moves) (step a moves) w
gives-hears s given moves q None None rest rest' step w = hears-asks s moves q (given q) rest'
gives-hears s given moves q None (Some a) rest rest' step w = subst (λ x. Continues (hears s moves q None (Some a) rest) (hears s moves q None x rest')) (sym w.0) (unless (s.failing a) (rest' a (moves ++ asked q a ∷ [])), (refl, gives-unless given (s.failing a) (rest a (moves ++ asked q a ∷ [])) (rest' a (moves ++ asked q a ∷ [])) (step a (moves ++ asked q a ∷ [])) w.1))

pub gives-run : {Q A U R : Type 0} (s : Setting Q A) (other given : Q → Option A) (p : Prog Q A U R) (moves : List (Move Q A U)) → Gives given (trace_of (run s other moves p)) → Continues (run s other moves p) (run s given moves p)
gives-run s other given (done r) moves w = refl
gives-run s other given (ask q rest) moves w = gives-hears s given moves q (recall s.same moves q) (other q) (λ a now. run s other now (rest a)) (λ a now. run s given now (rest a)) (λ a now. gives-run s other given (rest a) now) w
gives-run s other given (refer u p) moves w = (run s given (moves ++ referred u ∷ []) p, (refl, gives-run s other given p (moves ++ referred u ∷ []) w))

pub goes-on : {Q A U R : Type 0} (s : Setting Q A) (p : Prog Q A U R) (r : Run Q A U R) (given : Q → Option A) → IsRunOf s p r → Gives given (trace_of r) → Continues r (run s given [] p)
goes-on s p r given (other, e) w = subst (λ x. Continues x (run s given [] p)) e (gives-run s other given p [] (subst (λ x. Gives given (trace_of x)) (sym e) w))

pub Agrees-Lower : {Q A U R : Type 0} (few more : Q → Option A) (r : Run Q A U R) → Lower few more → Agrees few more r
Agrees-Lower few more r up = λ q a asks e. up q a e

-- a run that stops at a question that has no answer now either is the same now
AsksFirst-none : {Q A U R : Type 0} (given : Q → Option A) (r : Run Q A U R) (q : Q) → AsksFirst r q → Answers given r → given q ≡ None → r ≡ stops q
AsksFirst-none given (ends x) q asks w none = absurd asks
AsksFirst-none given fails q asks w none = absurd asks
AsksFirst-none given (stops p) q asks w none = ap (λ x. stops x) asks
AsksFirst-none given (goes (asked p a) r) q asks w none = let here : given p ≡ None = ap given asks ∙ none in let there : given p ≡ Some a = w.0 in absurd (cc)
AsksFirst-none given (goes (referred u) r) q asks w none = absurd asks

Answers-rest : {Q A U R : Type 0} (given : Q → Option A) (m : Move Q A U) (r : Run Q A U R) → Answers given (goes m r) → Answers given r
Answers-rest given (asked q a) r w = w.1
Answers-rest given (referred u) r w = w

pub continues-stop : {Q A U R : Type 0} (given : Q → Option A) (r later : Run Q A U R) (q : Q) → Continues r later → Answers given later → stop_of r ≡ Some q → given q ≡ None → later ≡ r
continues-stop given (ends x) later q c w stop none = c
continues-stop given fails later q c w stop none = c
continues-stop given (stops p) later q c w stop none = let is : p ≡ q = cc in AsksFirst-none given later p c w (ap given is ∙ none)
continues-stop given (goes m r) later q (rest, (is, c)) w stop none = is ∙ ap (λ x. goes m x) (continues-stop given r rest q c (Answers-rest given m rest (subst (λ x. Answers given x) is w)) stop none)

-- a question that a run stops at has no answer at hand
pub Answers-stop : {Q A U R : Type 0} (given : Q → Option A) (r : Run Q A U R) (q : Q) → Answers given r → stop_of r ≡ Some q → given q ≡ None
Answers-stop given (ends x) q w e = absurd (cc)
Answers-stop given fails q w e = absurd (cc)
Answers-stop given (stops p) q w e = let is : q ≡ p = cc in ap given is ∙ w
Answers-stop given (goes m r) q w e = Answers-stop given r q (Answers-rest given m r w) e
