-- A session with `--once`: its one answer, and what was written of it.
use Rattle.std.proofs.Common.{◌≡◌, ◌≢◌, ℕ, ◌+◌, ◌-◌, ◌<◌, ◌≤◌, Bool, true, false, List, [], ◌∷◌, ◌++◌, length, codes, Option, None, Some, IfSome, Result, Ok, Err, refl, ap, sym, ◌∙◌, subst, inl, inr, append-nil, append_assoc, ◌⊎◌, arith}
use Rattle.std.specs.Prelude.{IsSome, nat_lt}
use Rattle.std.specs.Fmt.{decimal}
use Rattle.std.specs.List.{concat}
use Rattle.zw_base.specs.declared.status.Status.{Status}
use Rattle.zw_base.specs.declared.status.Status.TheVariants as status
use Rattle.script_read.specs.declared.command.Command.{Command}
use Rattle.script_read.specs.declared.command.Command.TheVariants as command
use Rattle.script_read.specs.declared.command.Refusal.TheVariants as refusal
use Rattle.script_read.specs.Fold.{reader_of}
use Rattle.script_read.specs.Reads.{after_command}
use Rattle.script_read.specs.Script.{next_of}
use Rattle.script_read.proofs.Folds.{fold_command, fold_ends}
use Rattle.zw_base.specs.Limits.{Sizes, AreWithin, sizes_of}
use Rattle.zw_base.specs.declared.limits.TheConstants.{LIMITS}
use Rattle.zw_base.proofs.SizeLemmas.{within_not_over}
use Rattle.watch_core.specs.declared.session.Update.{Update}
use Rattle.watch_core.specs.declared.session.Update.TheVariants as update
use Rattle.watch_core.specs.Compile.{Files, compile}
use Rattle.watch_core.specs.Counts.{Nothing, counts, update_of}
use Rattle.watch_main.specs.declared.words.Words.{Words}
use Rattle.watch_main.specs.AnswerText.{update_text, status_after}
use Rattle.watch_main.specs.Memory.{memory_in, with_memory}
use Rattle.watch_main.specs.RunOnce.{Sessions, IsFrontOf, IsWhole, IsFront, IsCutAt, Fits}
use Rattle.watch_main.specs.Session.{Ending, Progress, bytes_of, carried_out, ending_of, files_of, run_over, session, started}
use Rattle.watch_main.specs.Steps.{FitsAnswer, first_answer, IsWritten}
use Rattle.watch_main.specs.Words.{words_of}
use Rattle.watch_main.proofs.MemoryLemmas.{one, IsShort, answer_begins, memory_front, memory_told, no_memory_told}

-- a session of one answer
abbrev pub one_answer : Bool → Update → Ending
one_answer memory answer = record { answers = first_answer memory answer ∷ []; status = status_after (first_answer memory answer) }

-- sessions of one answer, at each set of updates without memory
abbrev pub HaveOne : Sessions → Update → Type 0
HaveOne sessions answer = (memory : ℕ → Bool) → sessions memory ≡ one_answer (memory 1) answer

-- what they write, where the first update found memory or not
one_written : (sessions : Sessions) (answer : Update) → HaveOne sessions answer → (memory : ℕ → Bool) (found : Bool) → memory 1 ≡ found → bytes_of (sessions memory) ≡ update_text 1 (first_answer found answer)
one_written sessions answer h memory found e = ap bytes_of (h memory ∙ ap (λ m. one_answer m answer) e) ∙ append-nil (update_text 1 (first_answer found answer))

one_ended : (sessions : Sessions) (answer : Update) → HaveOne sessions answer → (memory : ℕ → Bool) (found : Bool) → memory 1 ≡ found → (sessions memory).status ≡ status_after (first_answer found answer)
one_ended sessions answer h memory found e = ap (λ (s : Ending). s.status) (h memory ∙ ap (λ m. one_answer m answer) e)

-- the whole answer was written
whole : (s : Status) (written : List ℕ) (sessions : Sessions) (answer : Update) (found : Bool) → HaveOne sessions answer → memory_in written 1 ≡ found → written ≡ update_text 1 (first_answer found answer) → status_after (first_answer found answer) ≡ s → IsWhole s written sessions
whole s written sessions answer found h told e ends = record {
  bytes = e ∙ sym (one_written sessions answer h (memory_in written) found told);
  status = one_ended sessions answer h (memory_in written) found told ∙ ends;
}

-- the front of an answer was written
front : (written : List ℕ) (sessions : Sessions) (answer : Update) (found : Bool) → HaveOne sessions answer → memory_in written 1 ≡ found → IsFrontOf written (update_text 1 (first_answer found answer)) → IsFront written sessions
front written sessions answer found h told f = inl (f.0, one_written sessions answer h (memory_in written) found told ∙ f.1)

-- ---- what was written fits the session

-- every answer begins alike
short_front : (written : List ℕ) (answer : Update) → IsShort written → IsFrontOf written (update_text 1 answer)
short_front written answer short =
    let text = answer_begins answer in
    (short.rest ++ text.0, text.1 ∙ ap (λ (w : List ℕ). w ++ text.0) short.whole ∙ append_assoc written short.rest text.0)

cut_mark : codes "update 1 m" ≡ [] ++ concat (codes "update " ∷ decimal 1 ∷ codes " m" ∷ [])
cut_mark = ap (λ (d : List ℕ). concat (codes "update " ∷ d ∷ codes " m" ∷ [])) (sym one)

-- the front of memory's answer
memory_cut : (written : List ℕ) (sessions : Sessions) (answer : Update) → HaveOne sessions answer → IsFrontOf written (update_text 1 update.Memory) → IsFront written sessions
memory_cut written sessions answer h f = elim (memory_front written f) [
  | inl told ↦ front written sessions answer true h told f
  | inr more ↦ elim more [
    | inl short ↦ front written sessions answer (memory_in written 1) h refl (short_front written (first_answer (memory_in written 1) answer) short)
    | inr cut ↦ inr (1, ([], cut ∙ cut_mark), subst (IsFrontOf written) (sym (one_written sessions answer h (with_memory 1 (memory_in written)) true refl)) f)
  ]
]

no_memory : {P : Type 0} (answer : Update) → answer ≢ update.Memory → status_after answer ≡ status.Memory → P
no_memory (update.Module bytes analysed reused) other e = absurd (cc)
no_memory (update.Errors lines analysed reused) other e = absurd (cc)
no_memory update.Memory other e = absurd (other refl)

-- the first update found no memory
pub memory_fits : (s : Status) (written : List ℕ) (sessions : Sessions) (answer : Update) → IsWritten s → HaveOne sessions answer → FitsAnswer s written update.Memory → Fits s written sessions
memory_fits status.Memory written sessions answer kind h fits = inr (whole status.Memory written sessions answer true h (memory_told written fits.0) fits.0 refl)
memory_fits status.WriteFault written sessions answer kind h fits = memory_cut written sessions answer h fits
memory_fits status.Module written sessions answer kind h fits = absurd (cc fits.1)
memory_fits status.Diagnostics written sessions answer kind h fits = absurd (cc fits.1)
memory_fits status.Usage written sessions answer kind h fits = absurd kind
memory_fits (status.BadScript line reason) written sessions answer kind h fits = absurd kind
memory_fits status.ReadFault written sessions answer kind h fits = absurd kind
memory_fits status.FileFault written sessions answer kind h fits = absurd kind
memory_fits (status.NoFile path) written sessions answer kind h fits = absurd kind
memory_fits (status.Limit which number) written sessions answer kind h fits = absurd kind

all_front : (written all : List ℕ) → written ≡ all → IsFrontOf written all
all_front written all e = ([], sym e ∙ sym (append-nil written))

-- it found memory
pub answer_fits : (s : Status) (written : List ℕ) (sessions : Sessions) (answer : Update) → IsWritten s → HaveOne sessions answer → answer ≢ update.Memory → FitsAnswer s written answer → Fits s written sessions
answer_fits status.Module written sessions answer kind h other fits = whole status.Module written sessions answer false h (no_memory_told answer written other (all_front written (update_text 1 answer) fits.0)) fits.0 fits.1
answer_fits status.Diagnostics written sessions answer kind h other fits = whole status.Diagnostics written sessions answer false h (no_memory_told answer written other (all_front written (update_text 1 answer) fits.0)) fits.0 fits.1
answer_fits status.WriteFault written sessions answer kind h other fits = front written sessions answer false h (no_memory_told answer written other fits) fits
answer_fits status.Memory written sessions answer kind h other fits = no_memory answer other fits.1
answer_fits status.Usage written sessions answer kind h other fits = absurd kind
answer_fits (status.BadScript line reason) written sessions answer kind h other fits = absurd kind
answer_fits status.ReadFault written sessions answer kind h other fits = absurd kind
answer_fits status.FileFault written sessions answer kind h other fits = absurd kind
answer_fits (status.NoFile path) written sessions answer kind h other fits = absurd kind
answer_fits (status.Limit which number) written sessions answer kind h other fits = absurd kind

-- ---- the session of one update

-- the script of one update means it
update_means : (files : Sizes) → AreWithin LIMITS files → next_of LIMITS 0 files (codes "update\n") ≡ Ok (command.Update, [])
update_means files w = rw (within_not_over LIMITS files w) refl

-- it has one answer
one_update : (words : Words) (files : Files) (memory : ℕ → Bool) → AreWithin LIMITS (sizes_of files) → run_over memory (started words files) (codes "update\n") ≡ one_answer (memory 1) (update_of (compile words.root files) (counts words.root files Nothing))
one_update words files memory w =
    ap ending_of (
    fold_command (λ (p : Progress). sizes_of p.files) (carried_out memory) (reader_of LIMITS) (started words files) (codes "update\n") command.Update [] (update_means (sizes_of files) w)
    ∙ fold_ends (λ (p : Progress). sizes_of p.files) (carried_out memory) (after_command (reader_of LIMITS) command.Update) (carried_out memory (started words files) command.Update) [] refusal.End refl)

pub have_one : (given : List (List ℕ)) (held : Files) (words : Words) (files : Files) → words_of given ≡ Some words → words.once ≡ true → files_of held (Some words) ≡ Ok files → AreWithin LIMITS (sizes_of files) → HaveOne (session given held []) (update_of (compile words.root files) (counts words.root files Nothing))
unfolding session
have_one given held words files served once read w memory = rw (served, read, once) (one_update words files memory w)
