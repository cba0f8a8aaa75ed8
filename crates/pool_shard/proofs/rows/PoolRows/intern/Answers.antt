use Rattle.std.proofs.Common.{◌≡◌, inl, inr, ℕ, List, [], ◌∷◌, ◌++◌, ◌∙◌, ap, subst, sym, Some, Result, Ok, Err, IfOk, IfErr, slice_index}
use Rattle.type_form.specs.declared.index.Index.{Index}
use Rattle.type_form.specs.Known.{words_at}
use Rattle.type_form.specs.Words.{index_of}
use Rattle.type_form.specs.Means.{Grows}
use Rattle.pool_words.specs.declared.view.Layout.{Layout}
use Rattle.pool_words.specs.declared.view.View.{View}
use Rattle.pool_words.specs.Layout.{Row, shard_of, head, base, IsLayout}
use Rattle.pool_words.specs.Rule.{In}
use Rattle.pool_words.proofs.Members.{Extends-trans}
use Rattle.pool_shard.specs.Looks.{Keeps, HasNot}
use Rattle.pool_shard.specs.Pairs.{Rows, GoesOn, AddsAtMost, known, known_of}
use Rattle.pool_shard.proofs.Keeping.{Keeps-trans, still_new}
use Rattle.pool_shard.proofs.Counting.{IsRows-keeps, GoesOn-seat, GoesOn-of}
use Rattle.pool_shard.proofs.Knowing.{known_in, pool_known, pool_injective, known_grows}
use Rattle.pool_shard.proofs.Logs.{log_keeps}
use Rattle.pool_shard.proofs.rows.PoolRows.intern.Goals as goal

pub invariant_of-self : goal.invariant_of-self
invariant_of-self c =
    let p = c.self.inside in
    let k = Keeps-trans p.seat.me.0 c.look-at.new.seat.me.0 c.probe.new.seat.me.0 c.look-at.ensures.keeps c.probe.ensures.keeps in
    IsRows-keeps p.layout p.words.shared.table_id p.seat c.probe.new.seat p.counts.items p.sums.items c.self.invariant c.probe.ensures.seat k (c.probe.ensures.slots ∙ c.look-at.ensures.slots)

pub invariant_of-self-in-Err : goal.invariant_of-self-in-Err
invariant_of-self-in-Err c =
    let p = c.self.inside in
    let k = Keeps-trans p.seat.me.0 c.look-at.new.seat.me.0 c.probe.new.seat.me.0 c.look-at.ensures.keeps c.probe.ensures.keeps in
    IsRows-keeps p.layout p.words.shared.table_id p.seat c.probe.new.seat p.counts.items p.sums.items c.self.invariant c.probe.ensures.seat k (c.probe.ensures.slots ∙ c.look-at.ensures.slots)

-- the head that was read is the head after the search
head_read : (v w : View) (z : Layout) (s at word : ℕ) → v.layout ≡ z → w.layout ≡ z → Keeps v w → In s v.writes → at ≡ slice_index v.words word → word ≡ base z s → head w.layout w.words s ≡ at
head_read v w z s at word lv lw k i e f =
    let h : head z w.words s ≡ head z v.words s = subst (λ y. head y w.words s ≡ head y v.words s) lv (k.heads s i) in
    subst (λ y. head y w.words s ≡ at) (sym lw) (h ∙ sym (e ∙ ap (slice_index v.words) f))

pub add-requires-clause-head : goal.add-requires-clause-head
add-requires-clause-head c =
    let p = c.self.inside in
    let i = c.self.invariant in
    let v = c.look-at.new.seat.me.0 in
    let w = c.probe.new.seat.me.0 in
    let s = c.shard_by-shard.result in
    head_read v w p.layout s c.look-at.result c.base_of-base.result c.look-at.ensures.seat.layout c.probe.ensures.seat.layout c.probe.ensures.keeps (subst (In s) (sym c.look-at.ensures.keeps.writes) (i.owns s c.shard_by-shard.ensures.inside)) c.look-at.ensures.found c.base_of-base.ensures.base

pub add-requires-clause-new : goal.add-requires-clause-new
add-requires-clause-new c =
    let p = c.self.inside in
    let i = c.self.invariant in
    let v = c.look-at.new.seat.me.0 in
    let w = c.probe.new.seat.me.0 in
    let s : c.shard_by-shard.result ≡ shard_of p.layout c.args.key.now = c.shard_by-shard.ensures.shard c.args.key.now c.hash_key-hash.ensures in
    let o = subst (λ t. In t v.writes) s (subst (In c.shard_by-shard.result) (sym c.look-at.ensures.keeps.writes) (i.owns c.shard_by-shard.result c.shard_by-shard.ensures.inside)) in
    still_new v w p.layout c.args.key.now c.look-at.ensures.seat.layout c.probe.ensures.keeps o c.in-Err.ensures.absent

pub returns-in-Ok-clause-grows : goal.returns-in-Ok-clause-grows
returns-in-Ok-clause-grows c =
    let w = c.probe.new.seat.me.0 in
    let x = Extends-trans c.self.inside.seat.me.0.log c.look-at.new.seat.me.0.log w.log c.look-at.ensures.keeps.later.grows c.probe.ensures.keeps.later.grows in
    subst (λ (p : Rows). Grows (known p) (known_of w.log)) c.self.view_is (known_grows c.self.inside.layout w.words c.self.inside.seat.me.0.log w.log c.probe.ensures.seat.pool x)

pub returns-in-Ok-clause-agrees : goal.returns-in-Ok-clause-agrees
returns-in-Ok-clause-agrees c = let w = c.probe.new.seat.me.0 in pool_injective c.self.inside.layout w.words w.log c.probe.ensures.seat.pool

pub returns-in-Ok-clause-place : goal.returns-in-Ok-clause-place
returns-in-Ok-clause-place c = let w = c.probe.new.seat.me.0 in pool_known c.self.inside.layout w.words w.log (index_of c.in-Ok.place) c.args.key.now c.probe.ensures.seat.pool c.in-Ok.ensures.found

pub returns-in-Err-clause-grows : goal.returns-in-Err-clause-grows
returns-in-Err-clause-grows c =
    let w = c.probe.new.seat.me.0 in
    let n = c.add.new.self in
    let x = Extends-trans c.self.inside.seat.me.0.log c.look-at.new.seat.me.0.log w.log c.look-at.ensures.keeps.later.grows c.probe.ensures.keeps.later.grows in
    let y = Extends-trans c.self.inside.seat.me.0.log w.log n.view.log x c.add.ensures.grows.0 in
    subst (λ (p : Rows). Grows (known p) (known n)) c.self.view_is (known_grows n.view.layout n.view.words c.self.inside.seat.me.0.log n.view.log c.add.ensures.grows.1 y)

pub returns-in-Err-clause-agrees : goal.returns-in-Err-clause-agrees
returns-in-Err-clause-agrees c = let n = c.add.new.self in pool_injective n.view.layout n.view.words n.view.log c.add.ensures.grows.1

if_ok : {E : Type 0} (r : Result Index E) (P Q : Index → Type 0) → ((i : Index) → P i → Q i) → IfOk r P → IfOk r Q
if_ok (Ok i) P Q f h = f i h
if_ok (Err e) P Q f h = h

if_err : {E : Type 0} (r : Result Index E) (P Q : E → Type 0) → ((e : E) → P e → Q e) → IfErr r P → IfErr r Q
if_err (Ok i) P Q f h = h
if_err (Err e) P Q f h = f e h

pub returns-in-Err-clause-place : goal.returns-in-Err-clause-place
returns-in-Err-clause-place c =
    let n = c.add.new.self in
    if_ok c.add.result (λ i. In (i.0, c.args.key.now) n.view.log) (λ i. words_at (known n) i ≡ Some c.args.key.now) (λ i h. pool_known n.view.layout n.view.words n.view.log i c.args.key.now c.add.ensures.grows.1 h) c.add.ensures.place

pub returns-in-Err-clause-absent : goal.returns-in-Err-clause-absent
returns-in-Err-clause-absent c =
    let n = c.add.new.self in
    if_err c.add.result (λ e. HasNot n.view.log c.args.key.now) (λ e. (i : Index) → words_at (known n) i ≡ Some c.args.key.now → ⊥) (λ e none i h. none i.0 (known_in n.view.log i c.args.key.now h)) c.add.ensures.absent

pub returns-in-Ok-clause-rows : goal.returns-in-Ok-clause-rows
returns-in-Ok-clause-rows c =
    let p = c.self.inside in
    let x = Extends-trans p.seat.me.0.log c.look-at.new.seat.me.0.log c.probe.new.seat.me.0.log c.look-at.ensures.keeps.later.grows c.probe.ensures.keeps.later.grows in
    GoesOn-seat p.layout p.words.shared.table_id p.seat c.probe.new.seat c.args.self.now c.self.view_is c.self.invariant.seat c.probe.ensures.seat x

pub returns-in-Err-clause-rows : goal.returns-in-Err-clause-rows
returns-in-Err-clause-rows c =
    let p = c.self.inside in
    let n = c.add.new.self in
    let me : Rows = record { id = p.seat.table_id; view = p.seat.me.0 } in
    let a = c.self.invariant.seat in
    let b = c.probe.ensures.seat in
    let x = Extends-trans p.seat.me.0.log c.look-at.new.seat.me.0.log c.probe.new.seat.me.0.log c.look-at.ensures.keeps.later.grows c.probe.ensures.keeps.later.grows in
    let y = Extends-trans p.seat.me.0.log c.probe.new.seat.me.0.log n.view.log x c.add.ensures.grows.0 in
    subst (λ (q : Rows). GoesOn q n) c.self.view_is (GoesOn-of me n (c.add.ensures.table.0 ∙ (b.of ∙ sym a.of)) (c.add.ensures.table.1 ∙ (b.layout ∙ sym a.layout)) (subst IsLayout (sym (c.add.ensures.table.1 ∙ b.layout)) b.laid) y c.add.ensures.grows.1)

pub returns-in-Ok-clause-added : goal.returns-in-Ok-clause-added
returns-in-Ok-clause-added c =
    let i = c.self.invariant in
    let k = Keeps-trans c.self.inside.seat.me.0 c.look-at.new.seat.me.0 c.probe.new.seat.me.0 c.look-at.ensures.keeps c.probe.ensures.keeps in
    inl (log_keeps c.self.inside.layout c.self.inside.seat.me.0 c.probe.new.seat.me.0 i.seat.layout i.seat.laid i.owns k ∙ ap (λ (p : Rows). p.view.log) c.self.view_is)

pub returns-in-Err-clause-added : goal.returns-in-Err-clause-added
returns-in-Err-clause-added c =
    let i = c.self.invariant in
    let k = Keeps-trans c.self.inside.seat.me.0 c.look-at.new.seat.me.0 c.probe.new.seat.me.0 c.look-at.ensures.keeps c.probe.ensures.keeps in
    let e = log_keeps c.self.inside.layout c.self.inside.seat.me.0 c.probe.new.seat.me.0 i.seat.layout i.seat.laid i.owns k ∙ ap (λ (p : Rows). p.view.log) c.self.view_is in
    let s = c.shard_by-shard.result in
    let z : s ≡ shard_of c.self.inside.layout c.args.key.now = c.shard_by-shard.ensures.shard c.args.key.now c.hash_key-hash.ensures in
    let v = c.look-at.new.seat.me.0 in
    let o = subst (λ t. In t v.writes) z (subst (In s) (sym c.look-at.ensures.keeps.writes) (i.owns s c.shard_by-shard.ensures.inside)) in
    let none : HasNot c.args.self.now.view.log c.args.key.now = subst (λ (l : List Row). HasNot l c.args.key.now) e (still_new v c.probe.new.seat.me.0 c.self.inside.layout c.args.key.now c.look-at.ensures.seat.layout c.probe.ensures.keeps o c.in-Err.ensures.absent) in
    if_ok c.add.result (λ i. c.add.new.self.view.log ≡ c.probe.new.seat.me.0.log ++ (i.0, c.args.key.now) ∷ []) (λ i. AddsAtMost c.args.self.now.view.log (i.0, c.args.key.now) c.add.new.self.view.log) (λ i h. inr (h ∙ ap (λ (l : List Row). l ++ (i.0, c.args.key.now) ∷ []) e, none)) c.add.ensures.added

pub returns-in-Err-clause-same : goal.returns-in-Err-clause-same
returns-in-Err-clause-same c =
    let i = c.self.invariant in
    let k = Keeps-trans c.self.inside.seat.me.0 c.look-at.new.seat.me.0 c.probe.new.seat.me.0 c.look-at.ensures.keeps c.probe.ensures.keeps in
    let e = log_keeps c.self.inside.layout c.self.inside.seat.me.0 c.probe.new.seat.me.0 i.seat.layout i.seat.laid i.owns k ∙ ap (λ (p : Rows). p.view.log) c.self.view_is in
    if_err c.add.result (λ _. c.add.new.self.view.log ≡ c.probe.new.seat.me.0.log) (λ _. c.add.new.self.view.log ≡ c.args.self.now.view.log) (λ _ h. h ∙ e) c.add.ensures.same
