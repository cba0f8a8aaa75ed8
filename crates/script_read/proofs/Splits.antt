-- The words of a line: parted at each space, and put together again.
use Rattle.std.proofs.Common.{◌≡◌, ℕ, ◌==◌, Bool, true, false, List, [], ◌∷◌, ◌++◌, None, Some, inl, inr, refl, sym, ◌∙◌, ap, codes, if◌then◌else◌}
use Rattle.std.specs.List.{onto_first, AllByRecursion}
use Rattle.std.specs.Cmp.Lexicographic.{same_text}
use Rattle.std.proofs.lemmas.List.Splits.{join_with_byte-slice_split, slice_split-cons_yes, slice_split-cons_no}
use lib.Pointwise.{pointwise}
use Rattle.script_read.specs.declared.line.Verb.{Verb}
use Rattle.script_read.specs.declared.line.Verb.TheVariants as verb
use Rattle.script_read.specs.Words.{words, verb_of}
use Rattle.script_read.specs.Grammar.{name_of, Calls, HasNoSpace, IsWord, spaced, HasWords}
use Rattle.script_read.proofs.Lines.{neither}

split_at_space : (word rest : List ℕ) → HasNoSpace word → words (word ++ 32 ∷ rest) ≡ word ∷ words rest
split_at_space [] rest h = refl
split_at_space (b ∷ word) rest h =
    let both : ((b == 32) ≡ false) × HasNoSpace word = neither _ _ h in
    slice_split-cons_no (λ b. b == 32) b (word ++ 32 ∷ rest) both.0 ∙ ap (onto_first b) (split_at_space word rest both.1)

split_word : (word : List ℕ) → HasNoSpace word → words word ≡ word ∷ []
split_word [] h = refl
split_word (b ∷ word) h =
    let both : ((b == 32) ≡ false) × HasNoSpace word = neither _ _ h in
    slice_split-cons_no (λ b. b == 32) b word both.0 ∙ ap (onto_first b) (split_word word both.1)

-- words without spaces, with one space between each two, are parted into these words
pub split_spaced : (word : List ℕ) (args : List (List ℕ)) → AllByRecursion HasNoSpace (word ∷ args) → words (spaced (word ∷ args)) ≡ word ∷ args
split_spaced word [] h = split_word word h.0
split_spaced word (a ∷ args) h = split_at_space word (spaced (a ∷ args)) h.0 ∙ ap (λ l. word ∷ l) (split_spaced a args h.1)

pub spaced_words : (line : List ℕ) → spaced (words line) ≡ line
spaced_words line = join_with_byte-slice_split 32 line

onto_no_space : (b : ℕ) (parts : List (List ℕ)) → (b == 32) ≡ false → AllByRecursion HasNoSpace parts → AllByRecursion HasNoSpace (onto_first b parts)
onto_no_space b [] e h = (rw e refl, tt)
onto_no_space b (part ∷ parts) e h = (rw e h.0, h.1)

no_space_step : (b : ℕ) (line : List ℕ) (here : Bool) → (b == 32) ≡ here → AllByRecursion HasNoSpace (words line) → AllByRecursion HasNoSpace (words (b ∷ line))
no_space_step b line true e more = rw (slice_split-cons_yes (λ b. b == 32) b line e) (refl, more)
no_space_step b line false e more = rw (slice_split-cons_no (λ b. b == 32) b line e) (onto_no_space b (words line) e more)

-- no word of a line has a space
pub no_space_in : (line : List ℕ) → AllByRecursion HasNoSpace (words line)
no_space_in [] = (refl, tt)
no_space_in (b ∷ line) = no_space_step b line (b == 32) refl (no_space_in line)

words_step : (b : ℕ) (line : List ℕ) (here : Bool) → (b == 32) ≡ here → (name : List ℕ) × (args : List (List ℕ)) × (words line ≡ name ∷ args) → (name : List ℕ) × (args : List (List ℕ)) × (words (b ∷ line) ≡ name ∷ args)
words_step b line true e found = ([], words line, slice_split-cons_yes (λ b. b == 32) b line e)
words_step b line false e found = (b ∷ found.0, found.1, slice_split-cons_no (λ b. b == 32) b line e ∙ ap (onto_first b) found.2)

-- a line has a first word
pub first_word : (line : List ℕ) → (name : List ℕ) × (args : List (List ℕ)) × (words line ≡ name ∷ args)
first_word [] = ([], [], refl)
first_word (b ∷ line) = words_step b line (b == 32) refl (first_word line)

-- ---- the command's name

pub name_has_no_space : (v : Verb) → HasNoSpace (name_of v)
name_has_no_space verb.File = refl
name_has_no_space verb.Drop = refl
name_has_no_space verb.Update = refl

pub verb_by_name : (v : Verb) → verb_of (name_of v) ≡ Some v
verb_by_name verb.File = refl
verb_by_name verb.Drop = refl
verb_by_name verb.Update = refl

pub one_verb : (v w : Verb) → name_of v ≡ name_of w → v ≡ w
one_verb v w e =
    let s : Some v ≡ Some w = sym (verb_by_name v) ∙ (ap verb_of e ∙ verb_by_name w) in
    cc

verb_case : (name : List ℕ) (a b c : Bool) → pointwise ◌==◌ name (codes "file") ≡ a → pointwise ◌==◌ name (codes "drop") ≡ b → pointwise ◌==◌ name (codes "update") ≡ c →
    (v : Verb) → (if a then Some verb.File else if b then Some verb.Drop else if c then Some verb.Update else None) ≡ Some v → name ≡ name_of v
verb_case name true b c e f g verb.File h = same_text name (codes "file") (sym e)
verb_case name true b c e f g verb.Drop h = cc
verb_case name true b c e f g verb.Update h = cc
verb_case name false true c e f g verb.File h = cc
verb_case name false true c e f g verb.Drop h = same_text name (codes "drop") (sym f)
verb_case name false true c e f g verb.Update h = cc
verb_case name false false true e f g verb.File h = cc
verb_case name false false true e f g verb.Drop h = cc
verb_case name false false true e f g verb.Update h = same_text name (codes "update") (sym g)
verb_case name false false false e f g v h = cc

pub verb_named : (name : List ℕ) (v : Verb) → verb_of name ≡ Some v → name ≡ name_of v
verb_named name v h = verb_case name _ _ _ refl refl refl v h

-- ---- what the words say of the line

pub calls_words : (v : Verb) (line : List ℕ) → Calls v line → (more : List (List ℕ)) × (words line ≡ name_of v ∷ more)
calls_words v line (inl is) = ([], rw is (split_word (name_of v) (name_has_no_space v)))
calls_words v line (inr (more, is)) = (words more, rw is (split_at_space (name_of v) more (name_has_no_space v)))

pub words_call : (v : Verb) (args : List (List ℕ)) (line : List ℕ) → words line ≡ name_of v ∷ args → Calls v line
words_call v [] line e = inl (sym (spaced_words line) ∙ ap spaced e)
words_call v (a ∷ args) line e = inr (spaced (a ∷ args), sym (spaced_words line) ∙ ap spaced e)

no_spaces : (args : List (List ℕ)) → AllByRecursion IsWord args → AllByRecursion HasNoSpace args
no_spaces [] h = tt
no_spaces (a ∷ args) h = (h.0.1, no_spaces args h.1)

pub has_words : (v : Verb) (args : List (List ℕ)) (line : List ℕ) → HasWords v args line → words line ≡ name_of v ∷ args
has_words v args line h = rw h.line_is (split_spaced (name_of v) args (name_has_no_space v, no_spaces args h.each))
