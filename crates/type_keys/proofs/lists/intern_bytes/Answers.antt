use Rattle.std.proofs.Common.{◌≡◌, ℕ, ◌+◌, ◌-◌, ◌*◌, ◌<◌, ◌≤◌, ◌++◌, List, take, drop, length, ap, ap₂, ◌∙◌, arith, sym}
use Rattle.std.proofs.lemmas.List.{take-append-drop, drop-drop}
use Rattle.type_form.proofs.PoolLemmas.{Interns-then}
use Rattle.type_keys.proofs.lists.intern_bytes.Goals as goal

-- a chunk and what follows it
rejoined : (xs : List ℕ) (a b : ℕ) → a + 60 ≡ b → take ((a + 60) - a) (drop a xs) ++ drop b xs ≡ drop a xs
rejoined xs a b e =
    let n : (a + 60) - a ≡ 60 = omega arith in
    let tail : drop b xs ≡ drop 60 (drop a xs) = sym (ap (λ n. drop n xs) e) ∙ sym (drop-drop 60 a xs) in
    ap₂ (λ k ys. take k (drop a xs) ++ ys) n tail ∙ take-append-drop 60 (drop a xs)

pub loop-chunks-preserved : goal.loop-chunks-preserved
loop-chunks-preserved g c =
    let i = c.loop-chunks.invariant in
    let d = c.in_ok-list-2.ensures.bytes in
    record {
      interns = Interns-then i.interns (rw c.in_ok-list-2.was at c.longer_bytes.ensures.interns);
      agrees = c.longer_bytes.ensures.agrees;
      bytes = record {
        known = d.known;
        is = d.is ∙ ap (λ ys. take ((c.loop-chunks.chunks - 1) * 60 + 60 - (c.loop-chunks.chunks - 1) * 60) (drop ((c.loop-chunks.chunks - 1) * 60) c.args.bytes.now) ++ ys) i.bytes.is
            ∙ rejoined c.args.bytes.now ((c.loop-chunks.chunks - 1) * 60) (c.loop-chunks.chunks * 60) (omega (arith, c.loop-chunks-test.true));
      };
      room = λ h. omega (arith, i.room c.loop-chunks-test.true, c.loop-chunks-test.true);
    }
