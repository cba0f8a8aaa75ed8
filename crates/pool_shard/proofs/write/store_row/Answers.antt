use Rattle.std.proofs.Common.{◌≡◌, ℕ, suc, ◌+◌, ◌<◌, ◌≤◌, List, [], ◌∷◌, ◌++◌, length, take, set, refl, sym, ap, ◌∙◌, subst, arith, add-one, slice_index}
use Rattle.std.proofs.lemmas.List.{take_more}
use Rattle.pool_words.specs.declared.view.Layout.{Layout}
use Rattle.pool_words.specs.Layout.{Row, window, base, IsLayout}
use Rattle.pool_words.specs.Rule.{Same}
use Rattle.pool_words.proofs.Windows.{window_more, window_part}
use Rattle.pool_words.proofs.Places.{base_in}
use Rattle.pool_shard.proofs.Keeping.{Keeps-trans}
use Rattle.pool_shard.proofs.write.store_row.Goals as goal

-- a window grows by the word that was stored behind it
grown : (z : Layout) (s : ℕ) (ws : List ℕ) (log : List Row) (ws' : List ℕ) (log' : List Row) (place n word x : ℕ) → IsLayout z → s < z.shards → length ws ≡ z.words → Same z s (set ws word x) log ws' log' → word ≡ place + n → base z s ≤ place → place + n < base z s + z.size
    → window ws' place (n + 1) ≡ window ws place n ++ x ∷ []
grown z s ws log ws' log' place n word x l lt len h e low high =
    let b = base_in z s l lt in
    sym (window_part (set ws word x) ws' (base z s) z.size place (n + 1) h.words low (omega arith)) ∙ window_more ws place n word x e (omega arith)

none : (ws : List ℕ) (place : ℕ) → window ws place 0 ≡ []
unfolding window
none ws place = refl

pub loop-i-init : goal.loop-i-init
loop-i-init c =
    let z = c.args.layout.now in
    let q = c.requires.seat in
    let u = c.args.seat.now.me.0 in
    let v = c.put.new.seat.me.0 in
    let b = c.base_of.ensures.base in
    let t = c.start_of.ensures.start in
    let room = c.requires.room in
    let place = c.base_of.result + (c.start_of.result + c.args.taken) in
    record {
      seat = c.put.ensures.seat;
      keeps = c.put.ensures.keeps;
      slots = c.put.ensures.slots;
      stored = subst (λ n. window v.words place n ≡ length c.args.key.now ∷ []) (add-one 0)
          (grown z c.args.shard u.words u.log v.words v.log place 0 place (length c.args.key.now) q.laid c.requires.ours.1 q.pool.long c.put.ensures.stored (omega arith) (omega arith) (omega arith) ∙ ap (λ l. l ++ length c.args.key.now ∷ []) (none u.words place));
    }

pub loop-i-preserved : goal.loop-i-preserved
loop-i-preserved c =
    let z = c.args.layout.now in
    let q = c.requires.seat in
    let u = c.args.seat.now.me.0 in
    let v = c.loop-i.seat.me.0 in
    let w = c.put-in-loop-i.new.seat.me.0 in
    let b = c.base_of.ensures.base in
    let t = c.start_of.ensures.start in
    let room = c.requires.room in
    let place = c.base_of.result + (c.start_of.result + c.args.taken) in
    let i = c.loop-i.i in
    let x = slice_index c.args.key.now i in
    let g = grown z c.args.shard v.words v.log w.words w.log place (suc i) (place + 1 + i) x q.laid c.requires.ours.1 c.loop-i.invariant.seat.pool.long c.put-in-loop-i.ensures.stored (omega arith) (omega arith) (let y = c.loop-i-test.true in omega arith) in
    let f : suc i + 1 ≡ suc (i + 1) = omega arith in
    record {
      seat = c.put-in-loop-i.ensures.seat;
      keeps = Keeps-trans u v w c.loop-i.invariant.keeps c.put-in-loop-i.ensures.keeps;
      slots = c.put-in-loop-i.ensures.slots ∙ c.loop-i.invariant.slots;
      stored = subst (λ n. window w.words place n ≡ length c.args.key.now ∷ take (i + 1) c.args.key.now) f
          (g ∙ ap (λ l. l ++ x ∷ []) c.loop-i.invariant.stored ∙ ap (λ l. length c.args.key.now ∷ l) (sym (take_more c.args.key.now i 0 c.loop-i-test.true)));
    }
