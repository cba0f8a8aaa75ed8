-- The whole log, where every shard's rows are known.
use Rattle.std.proofs.Common.{◌≡◌, inl, ⊎_elim, ℕ, ◌<◌, List, [], ◌∷◌, ◌++◌, refl, sym, ap, ◌∙◌, subst}
use Rattle.std.proofs.lemmas.Bool.{cases_eq}
use Rattle.std.proofs.lemmas.List.{append-nil, append_cancel_left}
use Rattle.pool_words.specs.declared.view.Layout.{Layout}
use Rattle.pool_words.specs.declared.view.View.{View}
use Rattle.pool_words.specs.Layout.{Row, rows_of, shard_of, IsLayout}
use Rattle.pool_words.specs.Rule.{In, Extends}
use Rattle.pool_words.proofs.Members.{In-rows_of, rows_of-append, rows_of-push}
use Rattle.pool_words.proofs.Opening.{no_rows}
use Rattle.pool_words.proofs.Places.{shard_in}
use Rattle.pool_shard.specs.Looks.{Keeps, Touches, Adds}

-- what was added to the rows of a shard
added_rows : (z : Layout) (s : ℕ) (log more log' rows : List Row) → log' ≡ log ++ more → rows_of z s log' ≡ rows_of z s log ++ rows → rows_of z s more ≡ rows
added_rows z s log more log' rows e h = append_cancel_left (rows_of z s log) (rows_of z s more) rows (sym (rows_of-append z s log more) ∙ (ap (rows_of z s) (sym e) ∙ h))

no_more : (z : Layout) (more : List Row) → IsLayout z → ((s : ℕ) → s < z.shards → rows_of z s more ≡ []) → more ≡ []
no_more z [] l h = refl
no_more z (r ∷ more) l h = absurd (subst (In r) (h (shard_of z r.1) (shard_in z r.1 l)) (In-rows_of z (shard_of z r.1) r (r ∷ more) refl (inl refl)))

-- a log to whose shards no row was added
pub log_stays : (z : Layout) (log log' : List Row) → IsLayout z → Extends log log' → ((s : ℕ) → s < z.shards → rows_of z s log' ≡ rows_of z s log) → log' ≡ log
log_stays z log log' l x h = x.1 ∙ (ap (λ (m : List Row). log ++ m) (no_more z x.0 l (λ s lt. added_rows z s log x.0 log' [] x.1 (h s lt ∙ sym (append-nil (rows_of z s log))))) ∙ append-nil log)

back_nil : {X : Type 0} (xs ys : List X) → xs ++ ys ≡ [] → ys ≡ []
back_nil [] ys e = e
back_nil (x ∷ xs) ys e = cc

first_is : {X : Type 0} (q r : X) (rest : List X) → q ∷ rest ≡ r ∷ [] → q ≡ r
first_is q r rest e = cc

rest_is : {X : Type 0} (q r : X) (rest : List X) → q ∷ rest ≡ r ∷ [] → rest ≡ []
rest_is q r rest e = cc

one_more : (z : Layout) (s : ℕ) (r : Row) (more : List Row) → IsLayout z → rows_of z s more ≡ r ∷ [] → ((t : ℕ) → t < z.shards → (t ≡ s → ⊥) → rows_of z t more ≡ []) → more ≡ r ∷ []
one_more z s r [] l own other = let n = no_rows z s in cc
one_more z s r (q ∷ more) l own other = ⊎_elim here (λ ne. absurd (subst (In q) (other (shard_of z q.1) (shard_in z q.1 l) ne) (In-rows_of z (shard_of z q.1) q (q ∷ more) refl (inl refl)))) (cases_eq (shard_of z q.1) s)
  where
    here : shard_of z q.1 ≡ s → q ∷ more ≡ r ∷ []
    here e =
        let first : rows_of z s (q ∷ []) ≡ q ∷ [] = rows_of-push z s [] q e ∙ ap (λ (m : List Row). m ++ q ∷ []) (no_rows z s) in
        let both : q ∷ rows_of z s more ≡ r ∷ [] = ap (λ (m : List Row). m ++ rows_of z s more) (sym first) ∙ (sym (rows_of-append z s (q ∷ []) more) ∙ own) in
        let rest : more ≡ [] = no_more z more l (λ t lt. ⊎_elim (λ same. ap (λ n. rows_of z n more) same ∙ rest_is q r (rows_of z s more) both) (λ ne. back_nil (rows_of z t (q ∷ [])) (rows_of z t more) (sym (rows_of-append z t (q ∷ []) more) ∙ other t lt ne)) (cases_eq t s)) in
        ap (λ (m : List Row). q ∷ m) rest ∙ ap (λ (x : Row). x ∷ []) (first_is q r (rows_of z s more) both)

-- steps of the seat that writes every shard, by which no row is published
pub log_keeps : (z : Layout) (u v : View) → u.layout ≡ z → IsLayout z → ((s : ℕ) → s < z.shards → In s u.writes) → Keeps u v → v.log ≡ u.log
log_keeps z u v e l owns k = log_stays z u.log v.log l k.later.grows (λ s lt. subst (λ y. rows_of y s v.log ≡ rows_of y s u.log) e (k.rows s (owns s lt)))

-- and steps by which one is
pub log_adds : (z : Layout) (u v w : View) (s : ℕ) (r : Row) → u.layout ≡ z → IsLayout z → ((t : ℕ) → t < z.shards → In t u.writes) → s < z.shards → Touches s u v → Adds s r v w → w.log ≡ u.log ++ r ∷ []
log_adds z u v w s r e l owns lt a b =
    let ev : v.layout ≡ z = a.layout ∙ e in
    let first : v.log ≡ u.log = log_stays z u.log v.log l a.later.grows (λ t i. subst (λ y. rows_of y t v.log ≡ rows_of y t u.log) e (a.rows t (owns t i))) in
    let x = b.later.grows in
    let own : rows_of z s x.0 ≡ r ∷ [] = added_rows z s v.log x.0 w.log (r ∷ []) x.1 (subst (λ y. rows_of y s w.log ≡ rows_of y s v.log ++ r ∷ []) ev b.added) in
    let other : (t : ℕ) → t < z.shards → (t ≡ s → ⊥) → rows_of z t x.0 ≡ [] = λ t i ne.
    added_rows z t v.log x.0 w.log [] x.1 (subst (λ y. rows_of y t w.log ≡ rows_of y t v.log) ev (b.rows t (subst (In t) (sym a.writes) (owns t i)) ne) ∙ sym (append-nil (rows_of z t v.log))) in
    x.1 ∙ (ap (λ (m : List Row). v.log ++ m) (one_more z s r x.0 l own other) ∙ ap (λ (m : List Row). m ++ r ∷ []) first)
