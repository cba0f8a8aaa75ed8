-- What the parser answers where the first pass accepts all tokens.
use Rattle.std.proofs.Common.{◌≡◌, ℕ, ◌+◌, ◌-◌, ◌<◌, Bool, true, false, ◌&&◌, ◌⊎◌, inl, inr, List, [], ◌∷◌, ◌++◌, length, take, drop, Result, Ok, Err, refl, sym, ◌∙◌, ap, subst, arith, append_assoc}
use Rattle.std.specs.Prelude.{not, ◌^◌}
use Rattle.std.proofs.lemmas.Bool.{and_parts, not-true}
use Rattle.std.proofs.lemmas.List.{take-append-drop}
use Rattle.zig_tree.specs.declared.token.Token.{Token}
use Rattle.zig_tree.specs.declared.token.TokenKind.{TokenKind}
use Rattle.zig_tree.specs.declared.token.TokenKind.TheVariants as kind
use Rattle.zig_tree.specs.declared.grammar.Rule.TheVariants as rule
use Rattle.zig_tree.specs.declared.grammar.Group.TheVariants as group
use Rattle.zig_tree.specs.declared.grammar.Part.{Part}
use Rattle.zig_tree.specs.declared.grammar.Part.TheVariants as part
use Rattle.zig_tree.specs.declared.tree.Node.{Node}
use Rattle.zig_tree.specs.Kinds.{has_kind, is_kind, number_of}
use Rattle.zig_tree.specs.Grammar.{Alternative, group_rows, rule_rows}
use Rattle.zig_tree.specs.GrammarSentences.{Pieces, Among, Derives, derives_none, derives_token, derives_one_of, derives_group, derives_rule, Sentence, Begins}
use Rattle.zig_parse.specs.declared.fault.SyntaxFault.{SyntaxFault}
use Rattle.zig_parse.specs.declared.fault.SyntaxFault.TheVariants.{Unexpected, TooDeep, OutOfMemory}
use Rattle.zig_parse.specs.Surveys.{look_at}
use Rattle.zig_parse.specs.Growth.{grown_from, parse_of, ◌>>=◌}
use Rattle.zig_parse.specs.Trees.{IsEnded, IsRefusedFor, NotWithout, kinds_of}
use Rattle.zig_parse.proofs.Tables.{same_kind}
use Rattle.zig_parse.proofs.Derived.{open_is_row, row_tested, rule_derived, split_derived, token_derived, none_derived}
use Rattle.zig_parse.proofs.LastToken.{are_free, group_free, is_root, row_free, rule_free}
use Rattle.zig_parse.proofs.Preferred.{sentence_some}
use Rattle.zig_parse.proofs.Reading.{Reads}
use Rattle.zig_parse.proofs.SureGrown.{GrownAs, grown_or}
use Rattle.zig_parse.proofs.SureGoes.{Agrees}
use Rattle.zig_parse.proofs.LastingEnds.{some_ends}
use Rattle.zig_parse.proofs.Answers.{Left, agrees_as, choices_of, first_found, found_where, kinds_length, refused_not, survey_of, taken_more}

-- ---- the file's end stands at the end alone

abbrev is_endless : List TokenKind → Bool
is_endless [] = true
is_endless (k ∷ ks) = not (is_kind k kind.End) && is_endless ks

-- the tokens up to the rest have no end
abbrev Endless : List TokenKind → List TokenKind → Type 0
Endless tokens end = (read : List TokenKind) × (tokens ≡ read ++ end) × (is_endless read ≡ true)

endless_joined : (a b : List TokenKind) → is_endless a ≡ true → is_endless b ≡ true → is_endless (a ++ b) ≡ true
endless_joined [] b h k = k
endless_joined (x ∷ a) b h k = let s = and_parts (not (is_kind x kind.End)) (is_endless a) h in rw (s.0, endless_joined a b s.1 k) refl

one_more : (k : TokenKind) (tokens end : List TokenKind) → not (is_kind k kind.End) ≡ true → Endless tokens end → Endless (k ∷ tokens) end
one_more k tokens end h (read, e, f) = (k ∷ read, ap (λ (l : List TokenKind). k ∷ l) e, rw (h, f) refl)

both_endless : (tokens mid end : List TokenKind) → Endless tokens mid → Endless mid end → Endless tokens end
both_endless tokens mid end (a, e, h) (b, f, k) = (a ++ b, e ∙ ap (λ (l : List TokenKind). a ++ l) f ∙ sym (append_assoc a b end), endless_joined a b h k)

not_end : (x y : Bool) → (y ≡ true → x ≡ true) → not x ≡ true → not y ≡ true
not_end x true f h = let e : x ≡ true = f refl in absurd (let wrong : not true ≡ true = ap not (sym e) ∙ h in cc)
not_end x false f h = refl

-- parts that are none of the file's end derive none
free_endless : (ps : List Part) (tokens end : List TokenKind) (p : Pieces) → Derives ps tokens end p → are_free ps ≡ true → Endless tokens end
free_endless ps tokens end p (derives_none _) h = ([], refl, refl)
free_endless ps tokens end p (derives_token k more after _ later d) h =
    let s = and_parts (not (is_kind k kind.End)) (are_free more) h in one_more k after end s.0 (free_endless more after end later d s.1)
free_endless ps tokens end p (derives_one_of c k more after _ later i d) h =
    let s = and_parts (not (has_kind c kind.End)) (are_free more) h in
    one_more k after end (not_end (has_kind c kind.End) (is_kind k kind.End) (λ e. ap (has_kind c) (sym (same_kind k kind.End e)) ∙ i) s.0) (free_endless more after end later d s.1)
free_endless ps tokens end p (derives_group g a more _ next _ inside later m d e) h =
    let s = and_parts true (are_free more) h in
    both_endless tokens next end (free_endless a.parts tokens next inside d (row_tested row_free a (group_rows g) (group_free g) (open_is_row tokens a (group_rows g) m))) (free_endless more next end later e s.1)
free_endless ps tokens end p (derives_rule r a more _ next _ inside later m d e) h =
    let s = and_parts (not (is_root r)) (are_free more) h in
    both_endless tokens next end (free_endless a.parts tokens next inside d (row_tested row_free a (rule_rows r) (rule_free r (not-true (is_root r) s.0)) (open_is_row tokens a (rule_rows r) m))) (free_endless more next end later e s.1)

root_row : (a : Alternative) → Among a (rule_rows rule.Root) → a.parts ≡ part.Group group.RootMembers ∷ part.Token kind.End ∷ []
unfolding rule_rows
root_row a (inl e) = ap (λ (x : Alternative). x.parts) e
root_row a (inr m) = elim m [ ]

root_endless : (tokens : List TokenKind) (p : Pieces) → Derives (part.Rule rule.Root ∷ []) tokens [] p → (read : List TokenKind) × (tokens ≡ read ++ kind.End ∷ []) × (is_endless read ≡ true)
root_endless tokens p d =
    let t = (rule_derived rule.Root [] tokens [] p d).0 in
    let parts = root_row t.a (open_is_row tokens t.a (rule_rows rule.Root) t.among) in
    let s = split_derived (part.Group group.RootMembers ∷ []) (part.Token kind.End ∷ []) tokens t.next t.inside (subst (λ (l : List Part). Derives l tokens t.next t.inside) parts t.first) in
    let last = token_derived kind.End [] s.0 t.next s.2 s.5 in
    let none = (none_derived last.0 t.next last.1 last.4).0 in
    let rest = (none_derived t.next [] t.later t.others).0 in
    let free = free_endless (part.Group group.RootMembers ∷ []) tokens s.0 s.1 s.4 refl in
    (free.0, free.1 ∙ ap (λ (l : List TokenKind). free.0 ++ l) (last.2 ∙ ap (λ (l : List TokenKind). kind.End ∷ l) (none ∙ rest)), free.2)

end_not : not (is_kind kind.End kind.End) ≡ true → ⊥
unfolding number_of
end_not h = cc

no_more : (front w read : List TokenKind) → (front ++ kind.End ∷ []) ++ w ≡ read ++ kind.End ∷ [] → is_endless read ≡ true → w ≡ []
no_more [] w [] e h = cc
no_more [] w (k ∷ read) e h = let same : kind.End ≡ k = cc in absurd (end_not (subst (λ (x : TokenKind). not (is_kind x kind.End) ≡ true) (sym same) (and_parts (not (is_kind k kind.End)) (is_endless read) h).0))
no_more (x ∷ front) w [] e h = absurd (none front (cc))
  where
    none : (f : List TokenKind) → (f ++ kind.End ∷ []) ++ w ≡ [] → ⊥
    none [] e = cc
    none (y ∷ f) e = cc
no_more (x ∷ front) w (k ∷ read) e h = no_more front w read (cc) (and_parts (not (is_kind k kind.End)) (is_endless read) h).1

-- ---- tokens that the first pass accepts are a sentence

ended_kinds : (tokens : List Token) → IsEnded tokens → (front : List TokenKind) × (kinds_of tokens ≡ front ++ kind.End ∷ [])
ended_kinds tokens (some, last) =
    let n = length tokens - 1 in
    let one : n + 1 ≡ length (kinds_of tokens) = omega (arith, some, kinds_length tokens) in
    let whole : take (n + 1) (kinds_of tokens) ≡ kinds_of tokens = ap (λ (m : ℕ). take m (kinds_of tokens)) one ∙ take_all (kinds_of tokens) in
    (take n (kinds_of tokens), sym whole ∙ taken_more tokens n (omega (arith, some)) ∙ ap (λ (k : TokenKind). take n (kinds_of tokens) ++ k ∷ []) last)
  where
    take_all : (l : List TokenKind) → take (length l) l ≡ l
    take_all [] = refl
    take_all (k ∷ l) = ap (λ (x : List TokenKind). k ∷ x) (take_all l)

all_taken : (tokens : List Token) → take (length tokens) (kinds_of tokens) ≡ kinds_of tokens
all_taken [] = refl
all_taken (t ∷ ts) = ap (λ (l : List TokenKind). t.kind ∷ l) (all_taken ts)

pub survey_sentence : (tokens : List Token) (marks : List Bool) → survey_of tokens ≡ Ok marks → IsEnded tokens → NotWithout ((tree : Pieces) × Sentence (kinds_of tokens) tree)
survey_sentence tokens marks h ended none =
    let f = found_where (Left tokens) tokens (survey_of tokens) (Ok marks) h (first_found tokens) in
    let l = f.1 in
    let w = some_ends f.0.live f.0.waiting (take (length tokens) (kinds_of tokens)) (look_at tokens (length tokens)).kind l.first l.others l.live l.lasts in
    let whole = subst (λ (x : List TokenKind). Reads (part.Rule rule.Root ∷ []) (x ++ w.0) []) (all_taken tokens) w.1 in
    let k = ended_kinds tokens ended in
    let r = root_endless (kinds_of tokens ++ w.0) whole.0 whole.1 in
    let nothing_more = no_more k.0 w.0 r.0 (ap (λ (x : List TokenKind). x ++ w.0) (sym k.1) ∙ r.1) r.2 in
    let derived = subst (λ (x : List TokenKind). Derives (part.Rule rule.Root ∷ []) x [] whole.0) (ap (λ (x : List TokenKind). kinds_of tokens ++ x) nothing_more ∙ append_nothing (kinds_of tokens)) whole.1 in
    sentence_some (kinds_of tokens) whole.0 derived (λ x s. none (x, s))
  where
    append_nothing : (l : List TokenKind) → l ++ [] ≡ l
    append_nothing [] = refl
    append_nothing (k ∷ l) = ap (λ (x : List TokenKind). k ∷ x) (append_nothing l)

-- ---- so the second pass gives its tree, or a token of it lies too deep

sentence_grown : (tokens : List Token) (marks : List Bool) (tree : Pieces) → length tokens < 2 ^ 32 → survey_of tokens ≡ Ok marks → Sentence (kinds_of tokens) tree → GrownAs tokens (grown_from tokens marks) tree ⊎ ((at : ℕ) × (grown_from tokens marks ≡ Err (TooDeep at)))
sentence_grown tokens marks tree fits h s =
    let c = choices_of tokens tree s in
    let f = c.follows (inr (marks, h)) in
    let same : f.found ≡ marks = (let both : Ok f.found ≡ Ok marks = sym f.accepts ∙ h in cc) in
    grown_or tokens tree c.forks marks fits c.sure (subst (λ (m : List Bool). Agrees tokens m c.forks) same (agrees_as tokens f.found c.forks f.agree))

pub never_unexpected : (tokens : List Token) (marks : List Bool) (k : TokenKind) (at : ℕ) → length tokens < 2 ^ 32 → survey_of tokens ≡ Ok marks → grown_from tokens marks ≡ Err (Unexpected k at) → IsEnded tokens → ⊥
never_unexpected tokens marks k at fits h e ended =
    survey_sentence tokens marks h ended (λ (tree, s). elim (sentence_grown tokens marks tree fits h s) [
      | inl g ↦ (let both : Ok g.nodes ≡ Err (Unexpected k at) = sym g.grows ∙ e in cc)
      | inr d ↦ (let both : ◌≡◌ {A = Result (List Node) SyntaxFault} (Err (TooDeep d.0)) (Err (Unexpected k at)) = sym d.1 ∙ e in cc)
    ])

grown_parse : (tokens : List Token) (marks : List Bool) (e : SyntaxFault) → survey_of tokens ≡ Ok marks → grown_from tokens marks ≡ Err e → parse_of tokens ≡ Err e
unfolding parse_of
grown_parse tokens marks e h g = ap (λ (r : Result (List Bool) SyntaxFault). r >>= grown_from tokens) h ∙ g

sentence_begins : (tokens : List Token) (n : ℕ) (tree : Pieces) → Sentence (kinds_of tokens) tree → Begins (take n (kinds_of tokens))
unfolding Begins
sentence_begins tokens n tree s = (drop n (kinds_of tokens), tree, subst (λ (l : List TokenKind). Sentence l tree) (sym (take-append-drop n (kinds_of tokens))) s)

pub grown_refused : (tokens : List Token) (marks : List Bool) (e : SyntaxFault) → length tokens < 2 ^ 32 → survey_of tokens ≡ Ok marks → grown_from tokens marks ≡ Err e → IsRefusedFor tokens e
grown_refused tokens marks (Unexpected k at) fits h g =
    (refused_not tokens (Unexpected k at) fits (grown_parse tokens marks (Unexpected k at) h g), λ ended. absurd (never_unexpected tokens marks k at fits h g ended))
grown_refused tokens marks (TooDeep at) fits h g =
    (refused_not tokens (TooDeep at) fits (grown_parse tokens marks (TooDeep at) h g), λ ended none. survey_sentence tokens marks h ended (λ (tree, s). none (sentence_begins tokens (at + 1) tree s)))
grown_refused tokens marks OutOfMemory fits h g = tt
