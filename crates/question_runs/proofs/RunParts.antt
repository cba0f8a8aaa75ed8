-- Lemmas on parts of runs: what comes next behind given moves, and how the run of a whole follows from those of its parts.
use Rattle.std.proofs.Common.{◌≡◌, Bool, true, false, List, [], ◌∷◌, ◌++◌, Option, Some, None, refl, sym, ap, ◌∙◌, subst, append_assoc, append-nil}
use Rattle.std.specs.Prelude.{if◌then◌else◌}
use Rattle.question_runs.specs.Programs.{Prog, done, ask, refer, bind}
use Rattle.question_runs.specs.Runs.{Move, asked, referred, Run, ends, fails, stops, goes, Setting, recall, unless, hears, run, nothing, behind, Gives, IsRunOf}
use Rattle.question_runs.specs.RunLaws.{IsReflexive, on_end, AsksFirst, AsksAnew, BeginsWith}
use Rattle.question_runs.proofs.RunSteps.{AsksAnew-run}

-- one program and then another
on_end-unless : {Q A U R S : Type 0} (moves : List (Move Q A U)) (b : Bool) (r : Run Q A U R) (next : List (Move Q A U) → R → Run Q A U S) → on_end moves (unless b r) next ≡ unless b (on_end moves r next)
on_end-unless moves true r next = refl
on_end-unless moves false r next = refl

on_end-hears : {Q A U R S : Type 0} (s : Setting Q A) (moves : List (Move Q A U)) (q : Q) (before hand : Option A) (rest : A → List (Move Q A U) → Run Q A U R) (next : List (Move Q A U) → R → Run Q A U S) → on_end moves (hears s moves q before hand rest) next ≡ hears s moves q before hand (λ a now. on_end now (rest a now) next)
on_end-hears s moves q (Some a) hand rest next = on_end-unless moves (s.failing a) (rest a moves) next
on_end-hears s moves q None (Some a) rest next = ap (λ x. goes (asked q a) x) (on_end-unless (moves ++ asked q a ∷ []) (s.failing a) (rest a (moves ++ asked q a ∷ [])) next)
on_end-hears s moves q None None rest next = refl

pub run-bind : {Q A U R S : Type 0} (s : Setting Q A) (given : Q → Option A) (p : Prog Q A U R) (next : R → Prog Q A U S) (moves : List (Move Q A U)) → run s given moves (bind p next) ≡ on_end moves (run s given moves p) (λ now r. run s given now (next r))
run-bind s given (done r) next moves = refl
run-bind s given (ask q rest) next moves = (λ i. hears s moves q (recall s.same moves q) (given q) (λ a now. run-bind s given (rest a) next now i)) ∙ sym (on_end-hears s moves q (recall s.same moves q) (given q) (λ a now. run s given now (rest a)) (λ now r. run s given now (next r)))
run-bind s given (refer u p) next moves = ap (λ x. goes (referred u) x) (run-bind s given p next (moves ++ referred u ∷ []))

-- what was asked before is found, also where more moves follow
recall-if : {A : Type 0} (b : Bool) (x : Option A) (a a' : A) (y : Option A) → (x ≡ Some a → y ≡ Some a) → (if b then Some a' else x) ≡ Some a → (if b then Some a' else y) ≡ Some a
recall-if true x a a' y step e = e
recall-if false x a a' y step e = step e

pub recall-more : {Q A U : Type 0} (same : Q → Q → Bool) (moves more : List (Move Q A U)) (q : Q) (a : A) → recall same moves q ≡ Some a → recall same (moves ++ more) q ≡ Some a
recall-more same [] more q a e = cc
recall-more same (asked p b ∷ moves) more q a e = recall-if (same p q) (recall same moves q) a b (recall same (moves ++ more) q) (recall-more same moves more q a) e
recall-more same (referred u ∷ moves) more q a e = recall-more same moves more q a e

recall-if-none : {A : Type 0} (b : Bool) (x : Option A) (a a' : A) (y : Option A) → (x ≡ None → y ≡ Some a) → (if b then Some a' else x) ≡ None → (if b then Some a' else y) ≡ Some a
recall-if-none true x a a' y step e = cc
recall-if-none false x a a' y step e = step e

pub recall-here : {Q A U : Type 0} (same : Q → Q → Bool) (moves more : List (Move Q A U)) (q : Q) (a : A) → same q q ≡ true → recall same moves q ≡ None → recall same (moves ++ asked q a ∷ more) q ≡ Some a
recall-here same [] more q a self e = ap (λ b. if b then Some a else recall same more q) self
recall-here same (asked p b ∷ moves) more q a self e = recall-if-none (same p q) (recall same moves q) a b (recall same (moves ++ asked q a ∷ more) q) (recall-here same moves more q a self) e
recall-here same (referred u ∷ moves) more q a self e = recall-here same moves more q a self e

-- one turn of a loop that answers
unless-unless : {Q A U R : Type 0} (b : Bool) (r : Run Q A U R) → unless b (unless b r) ≡ unless b r
unless-unless true r = refl
unless-unless false r = refl

turn-again : {Q A U R : Type 0} (b c : Bool) (m : Move Q A U) (q : Q) (before after after' : Run Q A U R) → (before ≡ stops q → after ≡ goes m (unless c after')) → unless b before ≡ stops q → unless b after ≡ goes m (unless c (unless b after'))
turn-again true c m q before after after' step e = cc
turn-again false c m q before after after' step e = step e

turn-hears : {Q A U R : Type 0} (s : Setting Q A) (given : Q → Option A) (moves : List (Move Q A U)) (p q : Q) (a : A) (before : Option A) (rest rest' : A → List (Move Q A U) → Run Q A U R) → IsReflexive s → recall s.same moves p ≡ before → given q ≡ Some a → ((b : A) → rest b moves ≡ stops q → rest' b moves ≡ goes (asked q a) (unless (s.failing a) (rest' b (moves ++ asked q a ∷ [])))) → hears s moves p before None rest ≡ stops q → hears s moves p before (given p) rest' ≡ goes (asked q a) (unless (s.failing a) (hears s (moves ++ asked q a ∷ []) p (recall s.same (moves ++ asked q a ∷ []) p) (given p) rest'))
turn-hears s given moves p q a (Some b) rest rest' self known at step e =
    turn-again (s.failing b) (s.failing a) (asked q a) q (rest b moves) (rest' b moves) (rest' b (moves ++ asked q a ∷ [])) (step b) e
    ∙ ap (λ x. goes (asked q a) (unless (s.failing a) (hears s (moves ++ asked q a ∷ []) p x (given p) rest'))) (sym (recall-more s.same moves (asked q a ∷ []) p b known))
turn-hears s given moves p q a None rest rest' self known at step e =
    let is : p ≡ q = cc in
    let here : given p ≡ Some a = ap given is ∙ at in
    let first : hears s moves p None (given p) rest' ≡ goes (asked p a) (unless (s.failing a) (rest' a (moves ++ asked p a ∷ []))) = ap (λ x. hears s moves p None x rest') here in
    let again : hears s (moves ++ asked p a ∷ []) p (recall s.same (moves ++ asked p a ∷ []) p) (given p) rest' ≡ unless (s.failing a) (rest' a (moves ++ asked p a ∷ [])) = ap (λ x. hears s (moves ++ asked p a ∷ []) p x (given p) rest') (recall-here s.same moves [] p a (self p) known) in
    let there : hears s moves p None (given p) rest' ≡ goes (asked p a) (unless (s.failing a) (hears s (moves ++ asked p a ∷ []) p (recall s.same (moves ++ asked p a ∷ []) p) (given p) rest')) = first ∙ ap (λ x. goes (asked p a) x) (sym (unless-unless (s.failing a) (rest' a (moves ++ asked p a ∷ []))) ∙ ap (λ x. unless (s.failing a) x) (sym again)) in
    subst (λ x. hears s moves p None (given p) rest' ≡ goes (asked x a) (unless (s.failing a) (hears s (moves ++ asked x a ∷ []) p (recall s.same (moves ++ asked x a ∷ []) p) (given p) rest'))) is there

pub run-turn : {Q A U R : Type 0} (s : Setting Q A) → IsReflexive s → (given : Q → Option A) (p : Prog Q A U R) (moves : List (Move Q A U)) (q : Q) (a : A) → run s nothing moves p ≡ stops q → given q ≡ Some a → run s given moves p ≡ goes (asked q a) (unless (s.failing a) (run s given (moves ++ asked q a ∷ []) p))
run-turn s self given (done r) moves q a e at = cc
run-turn s self given (ask p rest) moves q a e at = turn-hears s given moves p q a (recall s.same moves p) (λ b now. run s nothing now (rest b)) (λ b now. run s given now (rest b)) self refl at (λ b e'. run-turn s self given (rest b) moves q a e' at) e
run-turn s self given (refer u p) moves q a e at = cc

-- a run that begins with given moves and then asks
BeginsWith-after : {Q A U R : Type 0} (given : Q → Option A) (m m' : Move Q A U) (whole : Run Q A U R) (t : List (Move Q A U)) (q : Q) → m' ≡ m → BeginsWith whole given t q → BeginsWith (goes m whole) given (m' ∷ t) q
BeginsWith-after given m m' whole t q same b = record { rest = b.rest; is = ap (λ x. goes m x) b.is ∙ ap (λ x. goes x (behind t b.rest)) (sym same); asks = b.asks; stop = b.stop }

begins-hears : {Q A U R : Type 0} (s : Setting Q A) (given : Q → Option A) (moves : List (Move Q A U)) (p q : Q) (hand : Option A) (rest : A → List (Move Q A U) → Run Q A U R) → given p ≡ hand → p ≡ q → BeginsWith (hears s moves p None hand rest) given [] q
begins-hears s given moves p q None rest known is = record { rest = stops p; is = refl; asks = is; stop = λ e. ap (λ x. stops x) is }
begins-hears s given moves p q (Some a) rest known is = record { rest = goes (asked p a) (unless (s.failing a) (rest a (moves ++ asked p a ∷ []))); is = refl; asks = is; stop = λ e. let none : given p ≡ None = ap given is ∙ e in cc }

-- no run that fails at once begins so
fails-asks : {Q A U R : Type 0} (t : List (Move Q A U)) (r : Run Q A U R) (q : Q) → fails ≡ behind t r → AsksFirst r q → ⊥
fails-asks [] r q e asks = subst (λ x. AsksFirst x q) (sym e) asks
fails-asks (m ∷ t) r q e asks = cc

begins-unless : {Q A U R : Type 0} (given : Q → Option A) (b : Bool) (whole whole' r : Run Q A U R) (t : List (Move Q A U)) (q : Q) → (whole ≡ behind t r → BeginsWith whole' given t q) → unless b whole ≡ behind t r → AsksFirst r q → BeginsWith (unless b whole') given t q
begins-unless given true whole whole' r t q step e asks = absurd (fails-asks t r q e asks)
begins-unless given false whole whole' r t q step e asks = step e

begins-asked : {Q A U R : Type 0} (s : Setting Q A) (given : Q → Option A) (moves : List (Move Q A U)) (p q : Q) (before hand : Option A) (rest rest' : A → List (Move Q A U) → Run Q A U R) (t : List (Move Q A U)) (r : Run Q A U R) → ((a : A) (now t' : List (Move Q A U)) → rest a now ≡ behind t' r → Gives given t' → BeginsWith (rest' a now) given t' q) → hears s moves p before hand rest ≡ behind t r → AsksFirst r q → Gives given t → BeginsWith (hears s moves p before (given p) rest') given t q
begins-asked s given moves p q (Some a) hand rest rest' t r step e asks gives = begins-unless given (s.failing a) (rest a moves) (rest' a moves) r t q (λ e'. step a moves t e' gives) e asks
begins-asked s given moves p q None None rest rest' [] r step e asks gives = begins-hears s given moves p q (given p) rest' refl (subst (λ x. AsksFirst x q) (sym e) asks)
begins-asked s given moves p q None None rest rest' (m ∷ t) r step e asks gives = cc
begins-asked s given moves p q None (Some a) rest rest' [] r step e asks gives = begins-hears s given moves p q (given p) rest' refl (subst (λ x. AsksFirst x q) (sym e) asks)
begins-asked s given moves p q None (Some a) rest rest' (m ∷ t) r step e asks gives =
    let move : asked p a ≡ m = cc in
    let later : unless (s.failing a) (rest a (moves ++ asked p a ∷ [])) ≡ behind t r = cc in
    let both : (given p ≡ Some a) × Gives given t = subst (λ x. Gives given (x ∷ t)) (sym move) gives in
    subst (λ x. BeginsWith (hears s moves p None x rest') given (m ∷ t) q) (sym both.0) (BeginsWith-after given (asked p a) m (unless (s.failing a) (rest' a (moves ++ asked p a ∷ []))) t q (sym move) (begins-unless given (s.failing a) (rest a (moves ++ asked p a ∷ [])) (rest' a (moves ++ asked p a ∷ [])) r t q (λ e'. step a (moves ++ asked p a ∷ []) t e' both.1) later asks))

begins-referred : {Q A U R : Type 0} (given : Q → Option A) (u : U) (whole whole' : Run Q A U R) (t : List (Move Q A U)) (r : Run Q A U R) (q : Q) → ((t' : List (Move Q A U)) → whole ≡ behind t' r → Gives given t' → BeginsWith whole' given t' q) → goes (referred u) whole ≡ behind t r → AsksFirst r q → Gives given t → BeginsWith (goes (referred u) whole') given t q
begins-referred given u whole whole' [] r q step e asks gives = absurd (subst (λ x. AsksFirst x q) (sym e) asks)
begins-referred given u whole whole' (m ∷ t) r q step e asks gives =
    let move : referred u ≡ m = cc in
    let later : whole ≡ behind t r = cc in
    BeginsWith-after given (referred u) m whole' t q (sym move) (step t later (subst (λ x. Gives given (x ∷ t)) (sym move) gives))

ends-asks : {Q A U R : Type 0} (x : R) (t : List (Move Q A U)) (r : Run Q A U R) (q : Q) → ends x ≡ behind t r → AsksFirst r q → ⊥
ends-asks x [] r q e asks = subst (λ y. AsksFirst y q) (sym e) asks
ends-asks x (m ∷ t) r q e asks = cc

begins-run : {Q A U R : Type 0} (s : Setting Q A) (other given : Q → Option A) (p : Prog Q A U R) (moves t : List (Move Q A U)) (r : Run Q A U R) (q : Q) → run s other moves p ≡ behind t r → AsksFirst r q → Gives given t → BeginsWith (run s given moves p) given t q
begins-run s other given (done x) moves t r q e asks gives = absurd (ends-asks x t r q e asks)
begins-run s other given (ask p rest) moves t r q e asks gives = begins-asked s given moves p q (recall s.same moves p) (other p) (λ a now. run s other now (rest a)) (λ a now. run s given now (rest a)) t r (λ a now t' e' gives'. begins-run s other given (rest a) now t' r q e' asks gives') e asks gives
begins-run s other given (refer u p) moves t r q e asks gives = begins-referred given u (run s other (moves ++ referred u ∷ []) p) (run s given (moves ++ referred u ∷ []) p) t r q (λ t' e' gives'. begins-run s other given p (moves ++ referred u ∷ []) t' r q e' asks gives') e asks gives

pub first-parts : {Q A U R : Type 0} (s : Setting Q A) (p : Prog Q A U R) (t : List (Move Q A U)) (r : Run Q A U R) (q : Q) (given : Q → Option A) → IsRunOf s p (behind t r) → AsksFirst r q → Gives given t → BeginsWith (run s given [] p) given t q
first-parts s p t r q given (other, e) asks gives = begins-run s other given p [] t r q e asks gives

-- the answers of a trace lead the program along it
regroup : {X : Type 0} (xs ys : List X) (x : X) → (xs ++ x ∷ []) ++ ys ≡ xs ++ x ∷ ys
regroup xs ys x = append_assoc xs (x ∷ []) ys

Gives-recall : {Q A U R : Type 0} (s : Setting Q A) → IsReflexive s → (before t : List (Move Q A U)) (r : Run Q A U R) → AsksAnew s before (behind t r) → Gives (recall s.same (before ++ t)) t
Gives-recall s self before [] r anew = tt
Gives-recall s self before (asked q a ∷ t) r anew = (recall-here s.same before t q a (self q) anew.0, subst (λ x. Gives (recall s.same x) t) (regroup before t (asked q a)) (Gives-recall s self (before ++ asked q a ∷ []) t r anew.1))
Gives-recall s self before (referred u ∷ t) r anew = subst (λ x. Gives (recall s.same x) t) (regroup before t (referred u)) (Gives-recall s self (before ++ referred u ∷ []) t r anew)

anew-first : {Q A U R : Type 0} (s : Setting Q A) (before : List (Move Q A U)) (r : Run Q A U R) (q : Q) → AsksAnew s before r → AsksFirst r q → recall s.same before q ≡ None
anew-first s before (ends x) q anew asks = absurd asks
anew-first s before fails q anew asks = absurd asks
anew-first s before (stops p) q anew asks = ap (recall s.same before) (sym asks) ∙ anew
anew-first s before (goes (asked p a) r) q anew asks = ap (recall s.same before) (sym asks) ∙ anew.0
anew-first s before (goes (referred u) r) q anew asks = absurd asks

recall-first : {Q A U R : Type 0} (s : Setting Q A) (before t : List (Move Q A U)) (r : Run Q A U R) (q : Q) → AsksAnew s before (behind t r) → AsksFirst r q → recall s.same (before ++ t) q ≡ None
recall-first s before [] r q anew asks = ap (λ x. recall s.same x q) (append-nil before) ∙ anew-first s before r q anew asks
recall-first s before (asked p a ∷ t) r q anew asks = ap (λ x. recall s.same x q) (sym (regroup before t (asked p a))) ∙ recall-first s (before ++ asked p a ∷ []) t r q anew.1 asks
recall-first s before (referred u ∷ t) r q anew asks = ap (λ x. recall s.same x q) (sym (regroup before t (referred u))) ∙ recall-first s (before ++ referred u ∷ []) t r q anew asks

pub traces-lead : {Q A U R : Type 0} (s : Setting Q A) → IsReflexive s → (p : Prog Q A U R) (t : List (Move Q A U)) (r : Run Q A U R) (q : Q) → IsRunOf s p (behind t r) → AsksFirst r q → run s (recall s.same t) [] p ≡ behind t (stops q)
traces-lead s self p t r q (other, e) asks =
    let anew : AsksAnew s [] (behind t r) = subst (λ x. AsksAnew s [] x) e (AsksAnew-run s other p []) in
    let begins : BeginsWith (run s (recall s.same t) [] p) (recall s.same t) t q = begins-run s other (recall s.same t) p [] t r q e asks (Gives-recall s self [] t r anew) in
    begins.is ∙ ap (behind t) (begins.stop (recall-first s [] t r q anew asks))
