-- A run's steps, beside the session.
use Rattle.std.proofs.Common.{◌≡◌, ◌≢◌, ℕ, Bool, true, false, List, [], ◌∷◌, ◌++◌, ◌⊎◌, Option, None, Some, IfSome, Result, Ok, Err, IfErr, refl, ap, sym, ◌∙◌, subst, inl, inr, append-nil}
use Rattle.std.specs.Option.{option_map}
use Rattle.zw_base.specs.declared.status.Status.{Status}
use Rattle.zw_base.specs.declared.status.Status.TheVariants as status
use Rattle.zw_base.specs.Limits.{AreWithin, sizes_of}
use Rattle.zw_base.specs.declared.limits.TheConstants.{LIMITS}
use Rattle.watch_core.specs.declared.session.Update.{Update}
use Rattle.watch_core.specs.declared.session.Update.TheVariants as update
use Rattle.watch_core.specs.SessionState.{SessionState}
use Rattle.watch_core.specs.Compile.{Compiled, Refused, Linked, Files, compile}
use Rattle.watch_core.specs.Counts.{Counts, Nothing, counts, update_of}
use Rattle.watch_main.specs.declared.words.Words.{Words}
use Rattle.watch_main.specs.Memory.{memory_in}
use Rattle.watch_main.specs.RunOnce.{IsWhole, Follows, IsReady, IsAnswered, Refuses, files_asked}
use Rattle.watch_main.specs.Session.{Ending, bytes_of, refused, read_words, files_of, session}
use Rattle.watch_main.specs.Steps.{Serves, IsReadRefusal, RefusesRead, Opens, taken_with, first_answer, FitsAnswer, Ends, Writes, IsWritten}
use Rattle.watch_main.specs.Words.{words_of, once_over, once_path}
use Rattle.watch_main.proofs.SessionLemmas.{HaveOne, have_one, memory_fits, answer_fits}

pub IfSome-all : {T : Type 0} (o : Option T) (Q : T → Type 0) → ((x : T) → Q x) → IfSome o Q
IfSome-all None Q f = tt
IfSome-all (Some x) Q f = f x

pub IfSome-weaken : {T : Type 0} (o : Option T) (P Q : T → Type 0) → ((x : T) → P x → Q x) → IfSome o P → IfSome o Q
IfSome-weaken None P Q f h = tt
IfSome-weaken (Some x) P Q f h = f x h

taken_with-nil : (taken : Option (List ℕ)) → taken ≡ taken_with taken []
taken_with-nil None = refl
taken_with-nil (Some bytes) = ap Some (sym (append-nil bytes))

-- nothing was written
nothing : (s : Status) (words : List (List ℕ)) (held : Files) (old : Option (List ℕ)) → Follows s [] words held → Writes old old (λ written. Follows s written words held)
nothing s words held old f = ([], taken_with-nil old, f)

-- ---- refusals

-- a session that is refused ends so
refused_words : (words : List (List ℕ)) (held : Files) (memory : ℕ → Bool) → words_of words ≡ None → session words held [] memory ≡ refused status.Usage
unfolding session
refused_words words held memory e = rw e refl

refused_files : (words : List (List ℕ)) (held : Files) (memory : ℕ → Bool) (asked : Words) (why : Status) → words_of words ≡ Some asked → read_words held asked.paths [] ≡ Err why → session words held [] memory ≡ refused why
unfolding session
refused_files words held memory asked why e r = rw (e, r) refl

-- nothing is written of it
ended_whole : (s : Status) (words : List (List ℕ)) (held : Files) → ((memory : ℕ → Bool) → session words held [] memory ≡ refused s) → IsWhole s [] (session words held [])
ended_whole s words held h = record {
  bytes = ap bytes_of (sym (h (memory_in [])));
  status = ap (λ (e : Ending). e.status) (h (memory_in []));
}

-- the words are refused
pub words_refused : (s : Status) (words : List (List ℕ)) (held : Files) (old : Option (List ℕ)) → Serves (Err s) (words_of words) → Writes old old (λ written. Follows s written words held)
words_refused status.Usage words held old none = nothing status.Usage words held old (ended_whole status.Usage words held (λ memory. refused_words words held memory none))
words_refused status.Memory words held old some = nothing status.Memory words held old (inl refl)
words_refused status.Module words held old h = absurd h
words_refused status.Diagnostics words held old h = absurd h
words_refused status.FileFault words held old h = absurd h
words_refused (status.NoFile path) words held old h = absurd h
words_refused status.WriteFault words held old h = absurd h
words_refused (status.BadScript line reason) words held old h = absurd h
words_refused status.ReadFault words held old h = absurd h
words_refused (status.Limit which number) words held old h = absurd h

-- a file is refused
pub files_refused : (s : Status) (words : List (List ℕ)) (held : Files) (asked : Words) (old : Option (List ℕ)) → words_of words ≡ Some asked → IsReadRefusal s → Opens (Err s) asked.root (read_words held asked.paths []) → Writes old old (λ written. Follows s written words held)
files_refused status.FileFault words held asked old served kind opens = nothing status.FileFault words held old refl
files_refused status.Memory words held asked old served kind opens = nothing status.Memory words held old (inl refl)
files_refused (status.NoFile path) words held asked old served kind opens = nothing (status.NoFile path) words held old (ended_whole (status.NoFile path) words held (λ memory. refused_files words held memory asked (status.NoFile path) served opens))
files_refused (status.Limit which number) words held asked old served kind opens = nothing (status.Limit which number) words held old (ended_whole (status.Limit which number) words held (λ memory. refused_files words held memory asked (status.Limit which number) served opens))
files_refused status.Module words held asked old served kind opens = absurd kind
files_refused status.Diagnostics words held asked old served kind opens = absurd kind
files_refused status.Usage words held asked old served kind opens = absurd kind
files_refused status.WriteFault words held asked old served kind opens = absurd kind
files_refused (status.BadScript line reason) words held asked old served kind opens = absurd kind
files_refused status.ReadFault words held asked old served kind opens = absurd kind

-- what the files of served words are
asked_files : (words : List (List ℕ)) (held : Files) (asked : Words) → words_of words ≡ Some asked → files_asked words held ≡ read_words held asked.paths []
asked_files words held asked served = ap (files_of held) served

-- a refusal of the words is the one that is answered
pub words_answer : (s : Status) (words : List (List ℕ)) (held : Files) {P : Type 0} → Serves (Err s) (words_of words) → P → IfErr (files_asked words held) (λ why. Refuses s why × P)
words_answer status.Usage words held {P} none p = rw (ap (files_of held) none) (inl refl, p)
words_answer status.Memory words held {P} some p = any (files_asked words held)
  where
    any : (r : Result Files Status) → IfErr r (λ why. Refuses status.Memory why × P)
    any (Ok files) = tt
    any (Err why) = (inr (inr refl), p)
words_answer status.Module words held h p = absurd h
words_answer status.Diagnostics words held h p = absurd h
words_answer status.FileFault words held h p = absurd h
words_answer (status.NoFile path) words held h p = absurd h
words_answer status.WriteFault words held h p = absurd h
words_answer (status.BadScript line reason) words held h p = absurd h
words_answer status.ReadFault words held h p = absurd h
words_answer (status.Limit which number) words held h p = absurd h

-- and so is one of the files
pub files_answer : (s : Status) (words : List (List ℕ)) (held : Files) (asked : Words) {P : Type 0} → words_of words ≡ Some asked → IsReadRefusal s → Opens (Err s) asked.root (read_words held asked.paths []) → P → IfErr (files_asked words held) (λ why. Refuses s why × P)
files_answer s words held asked {P} served kind opens p =
    subst (λ (r : Result Files Status). IfErr r (λ why. Refuses s why × P)) (sym (asked_files words held asked served)) (by_status s kind (read_words held asked.paths []) opens)
  where
    free : (t : Status) → Refuses t t → (r : Result Files Status) → ((why : Status) → Refuses t why) → IfErr r (λ why. Refuses t why × P)
    free t same (Ok files) f = tt
    free t same (Err why) f = (f why, p)

    by_status : (t : Status) → IsReadRefusal t → (r : Result Files Status) → RefusesRead t r → IfErr r (λ why. Refuses t why × P)
    by_status status.FileFault k r o = free status.FileFault (inl refl) r (λ why. inr (inl refl))
    by_status status.Memory k r o = free status.Memory (inl refl) r (λ why. inr (inr refl))
    by_status (status.NoFile path) k r o = rw o (inl refl, p)
    by_status (status.Limit which number) k r o = rw o (inl refl, p)
    by_status status.Module k r o = absurd k
    by_status status.Diagnostics k r o = absurd k
    by_status status.Usage k r o = absurd k
    by_status status.WriteFault k r o = absurd k
    by_status (status.BadScript line reason) k r o = absurd k
    by_status status.ReadFault k r o = absurd k

-- files that were read are not refused
pub files_read : (words : List (List ℕ)) (held : Files) (asked : Words) (session : SessionState) (s : Status) (P : Type 0) → words_of words ≡ Some asked → Opens (Ok session) asked.root (read_words held asked.paths []) → IfErr (files_asked words held) (λ why. Refuses s why × P)
files_read words held asked session s P served opens = rw (asked_files words held asked served, opens.0) tt

-- ---- answers

-- served words have `--once`
served_once : (words : List (List ℕ)) (asked : Words) → words_of words ≡ Some asked → asked.once ≡ true
served_once words asked e = named (once_path words) e
  where
    named : (path : Option (List ℕ)) → option_map once_over path ≡ Some asked → asked.once ≡ true
    named None e = absurd (cc)
    named (Some path) e = let same : once_over path ≡ asked = cc in ap (λ (w : Words). w.once) (sym same)

never_memory : (found : Compiled) (n : Counts) → update_of found n ≢ update.Memory
never_memory (Refused lines) n e = cc
never_memory (Linked bytes) n e = cc

-- the answer, as it was written
pub answered : (s : Status) (words : List (List ℕ)) (held : Files) (asked : Words) (st : SessionState) (old new : Option (List ℕ)) (answer : Update) → words_of words ≡ Some asked → Opens (Ok st) asked.root (read_words held asked.paths []) → AreWithin LIMITS (sizes_of st.files) → (answer ≢ update.Memory → answer ≡ update_of (compile st.root st.files) (counts st.root st.files Nothing)) → IsWritten s → Ends s old new answer → Writes old new (λ written. Follows s written words held)
answered s words held asked st old new answer served opens within is kind ends =
    (ends.written, ends.taken, fits (first_answer ends.memory answer) (either ends.memory answer is) ends.fits)
  where
    real : Update
    real = update_of (compile asked.root st.files) (counts asked.root st.files Nothing)

    one : HaveOne (session words held []) real
    one = have_one words held asked st.files served (served_once words asked served) opens.0 within

    at_root : update_of (compile st.root st.files) (counts st.root st.files Nothing) ≡ real
    at_root = ap (λ root. update_of (compile root st.files) (counts root st.files Nothing)) opens.1

    told : (u : Update) → (u ≢ update.Memory → u ≡ update_of (compile st.root st.files) (counts st.root st.files Nothing)) → (u ≡ update.Memory) ⊎ (u ≡ real)
    told update.Memory h = inl refl
    told (update.Module bytes analysed reused) h = inr (h (λ e. cc) ∙ at_root)
    told (update.Errors lines analysed reused) h = inr (h (λ e. cc) ∙ at_root)

    either : (memory : Bool) (u : Update) → (u ≢ update.Memory → u ≡ update_of (compile st.root st.files) (counts st.root st.files Nothing)) → (first_answer memory u ≡ update.Memory) ⊎ (first_answer memory u ≡ real)
    either true u h = inl refl
    either false u h = told u h

    fits : (u : Update) → (u ≡ update.Memory) ⊎ (u ≡ real) → FitsAnswer s ends.written u → Follows s ends.written words held
    fits u (inl e) f = memory_fits s ends.written (session words held []) real kind one (subst (FitsAnswer s ends.written) e f)
    fits u (inr e) f = answer_fits s ends.written (session words held []) real kind one (never_memory (compile asked.root st.files) (counts asked.root st.files Nothing)) (subst (FitsAnswer s ends.written) e f)

-- a run that came to writing is no fault of a file
pub no_file_fault : {P : Type 0} (s : Status) → IsWritten s → s ≡ status.FileFault → P
no_file_fault status.FileFault kind e = absurd kind
no_file_fault status.Module kind e = cc
no_file_fault status.Diagnostics kind e = cc
no_file_fault status.WriteFault kind e = cc
no_file_fault status.Memory kind e = cc
no_file_fault status.Usage kind e = absurd kind
no_file_fault (status.BadScript line reason) kind e = absurd kind
no_file_fault status.ReadFault kind e = absurd kind
no_file_fault (status.NoFile path) kind e = absurd kind
no_file_fault (status.Limit which number) kind e = absurd kind

-- where the sink didn't fail, the run was answered
pub is_answered : {P : Type 0} (s : Status) → IsWritten s → (s ≡ status.WriteFault → P) → (P → ⊥) → IsAnswered s
is_answered status.Module kind f g = tt
is_answered status.Diagnostics kind f g = tt
is_answered status.Memory kind f g = tt
is_answered status.WriteFault kind f g = absurd (g (f refl))
is_answered status.FileFault kind f g = absurd kind
is_answered status.Usage kind f g = absurd kind
is_answered (status.BadScript line reason) kind f g = absurd kind
is_answered status.ReadFault kind f g = absurd kind
is_answered (status.NoFile path) kind f g = absurd kind
is_answered (status.Limit which number) kind f g = absurd kind

pub complete : (R : Type 0) {P : Type 0} (holds : Option Files) (words : List (List ℕ)) (s : Status) → IsWritten s → (s ≡ status.WriteFault → P) → IfSome holds (λ held. IsReady words held → (R → ⊥) → (P → ⊥) → IsAnswered s)
complete R holds words s kind f = IfSome-all holds _ (λ held ready no_file_rose no_sink_rose. is_answered s kind f no_sink_rose)
