-- How far parts in a row read, whatever the pieces: a rule or a group gives way to the parts of the
-- alternative that is taken, and stands for them.
use Rattle.std.proofs.Common.{◌≡◌, ◌<◌, ◌≤◌, true, inl, inr, List, [], ◌∷◌, ◌++◌, length, refl, sym, subst}
use Rattle.zig_tree.specs.declared.token.TokenKind.{TokenKind}
use Rattle.zig_tree.specs.declared.grammar.Rule.{Rule}
use Rattle.zig_tree.specs.declared.grammar.Group.{Group}
use Rattle.zig_tree.specs.declared.grammar.TokenClass.{TokenClass}
use Rattle.zig_tree.specs.declared.grammar.Part.{Part}
use Rattle.zig_tree.specs.declared.grammar.Part.TheVariants as part
use Rattle.zig_tree.specs.Kinds.{has_kind}
use Rattle.zig_tree.specs.Grammar.{Alternative, group_rows, rule_rows}
use Rattle.zig_tree.specs.GrammarSentences.{Pieces, nothing, followed, made, open_at, Among, Derives, derives_none, derives_group, derives_rule}
use Rattle.zig_parse.proofs.Derived.{none_derived, token_derived, class_derived, group_derived, rule_derived, split_derived, joined_derived, no_longer}
use Rattle.zig_parse.proofs.Shapes.{fills, is_closed}
use Rattle.zig_parse.proofs.Balance.{reads_some}
use Rattle.zig_parse.proofs.Ends.{ends_same}

-- parts derive tokens up to some others
abbrev pub Reads : List Part → List TokenKind → List TokenKind → Type 0
Reads ps tokens rest = (p : Pieces) × Derives ps tokens rest p

pub split_read : (ps qs : List Part) (tokens rest : List TokenKind) → Reads (ps ++ qs) tokens rest → (next : List TokenKind) × (first : Reads ps tokens next) × Reads qs next rest
split_read ps qs tokens rest d = let s = split_derived ps qs tokens rest d.0 d.1 in (s.0, (s.1, s.4), (s.2, s.5))

pub joined_read : (ps qs : List Part) (tokens next rest : List TokenKind) → Reads ps tokens next → Reads qs next rest → Reads (ps ++ qs) tokens rest
joined_read ps qs tokens next rest d e = (followed d.0 e.0, joined_derived ps qs tokens next rest d.0 e.0 d.1 e.1)

-- ---- one part

pub none_read : (tokens rest : List TokenKind) → Reads [] tokens rest → tokens ≡ rest
none_read tokens rest d = (none_derived tokens rest d.0 d.1).0

pub token_read : (k : TokenKind) (ps : List Part) (tokens rest : List TokenKind) → Reads (part.Token k ∷ ps) tokens rest → (more : List TokenKind) × (tokens ≡ k ∷ more) × Reads ps more rest
token_read k ps tokens rest d = let t = token_derived k ps tokens rest d.0 d.1 in (t.0, t.2, (t.1, t.4))

pub class_read : (c : TokenClass) (ps : List Part) (tokens rest : List TokenKind) → Reads (part.OneOf c ∷ ps) tokens rest → (k : TokenKind) × (more : List TokenKind) × (tokens ≡ k ∷ more) × (has_kind c k ≡ true) × Reads ps more rest
class_read c ps tokens rest d = let t = class_derived c ps tokens rest d.0 d.1 in (t.0, t.1, t.3, t.5, (t.2, t.6))

-- an alternative of the first part that reads, and the later parts
pub record Opened (rows : List Alternative) (ps : List Part) (tokens rest : List TokenKind) : Type 0 where
  pub a : Alternative
  pub next : List TokenKind
  pub among : Among a (open_at tokens rows)
  pub first : Reads a.parts tokens next
  pub others : Reads ps next rest

pub rule_read : (r : Rule) (ps : List Part) (tokens rest : List TokenKind) → Reads (part.Rule r ∷ ps) tokens rest → Opened (rule_rows r) ps tokens rest
rule_read r ps tokens rest d =
    let t = (rule_derived r ps tokens rest d.0 d.1).0 in
    record { a = t.a; next = t.next; among = t.among; first = (t.inside, t.first); others = (t.later, t.others) }

pub group_read : (g : Group) (ps : List Part) (tokens rest : List TokenKind) → Reads (part.Group g ∷ ps) tokens rest → Opened (group_rows g) ps tokens rest
group_read g ps tokens rest d =
    let t = (group_derived g ps tokens rest d.0 d.1).0 in
    record { a = t.a; next = t.next; among = t.among; first = (t.inside, t.first); others = (t.later, t.others) }

pub rule_alone : (r : Rule) (tokens rest : List TokenKind) → Reads (part.Rule r ∷ []) tokens rest → (a : Alternative) × (among : Among a (open_at tokens (rule_rows r))) × Reads a.parts tokens rest
rule_alone r tokens rest d = let o = rule_read r [] tokens rest d in (o.a, o.among, subst (Reads o.a.parts tokens) (none_read o.next rest o.others) o.first)

pub group_alone : (g : Group) (tokens rest : List TokenKind) → Reads (part.Group g ∷ []) tokens rest → (a : Alternative) × (among : Among a (open_at tokens (group_rows g))) × Reads a.parts tokens rest
group_alone g tokens rest d = let o = group_read g [] tokens rest d in (o.a, o.among, subst (Reads o.a.parts tokens) (none_read o.next rest o.others) o.first)

-- ---- the parts of an alternative in the place of a rule or a group

among_one : (a b : Alternative) → Among a (b ∷ []) → a ≡ b
among_one a b (inl e) = e
among_one a b (inr n) = elim n [ ]

opened_parts : (rows : List Alternative) (a : Alternative) (ps : List Part) (tokens rest : List TokenKind) → open_at tokens rows ≡ a ∷ [] → Opened rows ps tokens rest → Reads (a.parts ++ ps) tokens rest
opened_parts rows a ps tokens rest e o =
    let same : o.a ≡ a = among_one o.a a (subst (Among o.a) e o.among) in
    joined_read a.parts ps tokens o.next rest (subst (λ (x : Alternative). Reads x.parts tokens o.next) same o.first) o.others

-- where one alternative alone may be taken
pub rule_opened : (r : Rule) (a : Alternative) (ps : List Part) (tokens rest : List TokenKind) → open_at tokens (rule_rows r) ≡ a ∷ [] → Reads (part.Rule r ∷ ps) tokens rest → Reads (a.parts ++ ps) tokens rest
rule_opened r a ps tokens rest e d = opened_parts (rule_rows r) a ps tokens rest e (rule_read r ps tokens rest d)

pub group_opened : (g : Group) (a : Alternative) (ps : List Part) (tokens rest : List TokenKind) → open_at tokens (group_rows g) ≡ a ∷ [] → Reads (part.Group g ∷ ps) tokens rest → Reads (a.parts ++ ps) tokens rest
group_opened g a ps tokens rest e d = opened_parts (group_rows g) a ps tokens rest e (group_read g ps tokens rest d)

-- one rule or group alone
pub rule_made : (r : Rule) (a : Alternative) (tokens rest : List TokenKind) → Among a (open_at tokens (rule_rows r)) → Reads a.parts tokens rest → Reads (part.Rule r ∷ []) tokens rest
rule_made r a tokens rest m d = (followed (made r d.0) nothing, derives_rule r a [] tokens rest rest d.0 nothing m d.1 (derives_none rest))

pub group_made : (g : Group) (a : Alternative) (tokens rest : List TokenKind) → Among a (open_at tokens (group_rows g)) → Reads a.parts tokens rest → Reads (part.Group g ∷ []) tokens rest
group_made g a tokens rest m d = (followed d.0 nothing, derives_group g a [] tokens rest rest d.0 nothing m d.1 (derives_none rest))

pub among_sole : (a : Alternative) (rows : List Alternative) → rows ≡ a ∷ [] → Among a rows
among_sole a rows e = subst (Among a) (sym e) (inl refl)

-- ---- where they end

pub closed_read : (ps : List Part) (tokens n m : List TokenKind) → is_closed ps ≡ true → Reads ps tokens n → Reads ps tokens m → n ≡ m
closed_read ps tokens n m h d e = ends_same ps tokens n m d.0 e.0 d.1 h e.1

pub shorter_read : (ps : List Part) (tokens rest : List TokenKind) → Reads ps tokens rest → length rest ≤ length tokens
shorter_read ps tokens rest d = no_longer ps tokens rest d.0 d.1

-- two rows read as far after parts that end at one place
pub split_both : (front ps qs : List Part) (tokens n m : List TokenKind) → is_closed front ≡ true → Reads (front ++ ps) tokens n → Reads (front ++ qs) tokens m → (next : List TokenKind) × (first : Reads front tokens next) × (left : Reads ps next n) × Reads qs next m
split_both front ps qs tokens n m h d e =
    let s = split_read front ps tokens n d in
    let t = split_read front qs tokens m e in
    (s.0, s.1, s.2, subst (λ (l : List TokenKind). Reads qs l m) (closed_read front tokens t.0 s.0 h t.1 s.1) t.2)

pub less_read : (ps : List Part) (tokens rest : List TokenKind) → fills ps ≡ true → Reads ps tokens rest → length rest < length tokens
less_read ps tokens rest h d = reads_some ps tokens rest d.0 d.1 h
