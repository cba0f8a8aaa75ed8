use Rattle.std.proofs.Common.{◌≡◌, ℕ, ◌<◌, get_or, length}
use Rattle.type_form.proofs.key.Few.of_bytes.Given as goal

-- the first bytes are copied, and each is a byte
abbrev pub invariant-loop-i : goal.invariant-loop-i
invariant-loop-i l = record {
  room : length l.few ≡ 60;
  copied : (k : ℕ) → k < l.i → get_or l.few k 0 ≡ get_or l.bytes k 0;
  bytes : (k : ℕ) → k < l.i → get_or l.bytes k 0 < 256;
}
