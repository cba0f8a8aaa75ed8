-- What parts derive in a way that is sure, and how many nodes the first pass counts one in the other there.
use Rattle.std.proofs.Common.{◌≡◌, ℕ, ◌-◌, ◌≤◌, Bool, true, false, inl, List, [], ◌∷◌, ◌++◌, refl, sym, subst, arith}
use Rattle.std.specs.Prelude.{max, min, if◌then◌else◌, ◌&&◌}
use Rattle.zig_tree.specs.declared.token.TokenKind.{TokenKind}
use Rattle.zig_tree.specs.declared.grammar.Rule.{Rule}
use Rattle.zig_tree.specs.declared.grammar.Part.{Part}
use Rattle.zig_tree.specs.Grammar.{Alternative, group_rows, rule_rows}
use Rattle.zig_tree.specs.GrammarSentences.{Pieces, nothing, node, makes_no_node_alone, is_one_node, made, open_at, Among, Derives, derives_none, derives_token, derives_one_of, derives_group, derives_rule, height}
use Rattle.zig_parse.specs.Threads.{one_more}
use Rattle.zig_parse.proofs.Story.{height_followed}
use Rattle.zig_parse.proofs.Calm.{taken_among}
use Rattle.zig_parse.specs.Ways.{Fork, Sure, sure_none, sure_token, sure_one_of, sure_group, sure_rule, sure_group_apart, sure_rule_apart}

pub among_sole : (rows : List Alternative) (a : Alternative) → rows ≡ a ∷ [] → Among a rows
among_sole rows a e = subst (Among a) (sym e) (inl refl)

pub sure_derives : (ps behind : List Part) (tokens next end : List TokenKind) (p : Pieces) (forks : List Fork) → Sure ps behind tokens next end p forks → Derives ps tokens next p
sure_derives ps behind tokens next end p forks (sure_none _ _ _) = derives_none next
sure_derives ps behind tokens next end p forks (sure_token k more _ after _ _ later _ s) = derives_token k more after next later (sure_derives more behind after next end later forks s)
sure_derives ps behind tokens next end p forks (sure_one_of c k more _ after _ _ later _ h s) = derives_one_of c k more after next later h (sure_derives more behind after next end later forks s)
sure_derives ps behind tokens next end p forks (sure_group g a more _ _ mid _ _ inside later choices inner outer _ t s u) =
    derives_group g a more tokens mid next inside later (taken_among (more ++ behind) tokens end (open_at tokens (group_rows g)) a choices t)
    (sure_derives a.parts (more ++ behind) tokens mid end inside inner s) (sure_derives more behind mid next end later outer u)
sure_derives ps behind tokens next end p forks (sure_rule r a more _ _ mid _ _ inside later choices inner outer _ t s u) =
    derives_rule r a more tokens mid next inside later (taken_among (more ++ behind) tokens end (open_at tokens (rule_rows r)) a choices t)
    (sure_derives a.parts (more ++ behind) tokens mid end inside inner s) (sure_derives more behind mid next end later outer u)
sure_derives ps behind tokens next end p forks (sure_group_apart g a more _ _ mid _ _ inside later inner outer _ e s u) =
    derives_group g a more tokens mid next inside later (among_sole (open_at tokens (group_rows g)) a e) (sure_derives a.parts [] tokens mid mid inside inner s) (sure_derives more behind mid next end later outer u)
sure_derives ps behind tokens next end p forks (sure_rule_apart r a more _ _ mid _ _ inside later inner outer _ e s u) =
    derives_rule r a more tokens mid next inside later (among_sole (open_at tokens (rule_rows r)) a e) (sure_derives a.parts [] tokens mid mid inside inner s) (sure_derives more behind mid next end later outer u)

-- how many nodes lie one in the other in what a rule makes of what its parts derive, as counted
abbrev pub rise_made : Rule → Pieces → ℕ → ℕ
rise_made r p n = if makes_no_node_alone r && is_one_node p then n else one_more n

-- and in what parts derive, each pair of braces of a group counted as a node that is none
abbrev pub rise_of : (ps behind : List Part) (tokens next end : List TokenKind) (p : Pieces) (forks : List Fork) → Sure ps behind tokens next end p forks → ℕ
rise_of ps behind tokens next end p forks (sure_none _ _ _) = 0
rise_of ps behind tokens next end p forks (sure_token k more _ after _ _ later _ s) = rise_of more behind after next end later forks s
rise_of ps behind tokens next end p forks (sure_one_of c k more _ after _ _ later _ h s) = rise_of more behind after next end later forks s
rise_of ps behind tokens next end p forks (sure_group g a more _ _ mid _ _ inside later choices inner outer _ t s u) =
    max (rise_of a.parts (more ++ behind) tokens mid end inside inner s) (rise_of more behind mid next end later outer u)
rise_of ps behind tokens next end p forks (sure_rule r a more _ _ mid _ _ inside later choices inner outer _ t s u) =
    max (rise_made r inside (rise_of a.parts (more ++ behind) tokens mid end inside inner s)) (rise_of more behind mid next end later outer u)
rise_of ps behind tokens next end p forks (sure_group_apart g a more _ _ mid _ _ inside later inner outer _ e s u) =
    max (one_more (rise_of a.parts [] tokens mid mid inside inner s) - 1) (rise_of more behind mid next end later outer u)
rise_of ps behind tokens next end p forks (sure_rule_apart r a more _ _ mid _ _ inside later inner outer _ e s u) =
    max (rise_made r inside (rise_of a.parts [] tokens mid mid inside inner s)) (rise_of more behind mid next end later outer u)

rise_if : (b : Bool) (r : Rule) (p : Pieces) (n : ℕ) → n ≤ height p → (if b then n else one_more n) ≤ height (if b then p else node r p nothing)
rise_if true r p n h = h
rise_if false r p n h = omega arith

pub rise_made_low : (r : Rule) (p : Pieces) (n : ℕ) → n ≤ height p → rise_made r p n ≤ height (made r p)
rise_made_low r p n h = rise_if (makes_no_node_alone r && is_one_node p) r p n h

-- it is no more than there are
pub rise_low : (ps behind : List Part) (tokens next end : List TokenKind) (p : Pieces) (forks : List Fork) (s : Sure ps behind tokens next end p forks) → rise_of ps behind tokens next end p forks s ≤ height p
rise_low ps behind tokens next end p forks (sure_none _ _ _) = omega arith
rise_low ps behind tokens next end p forks (sure_token k more _ after _ _ later _ s) = rise_low more behind after next end later forks s
rise_low ps behind tokens next end p forks (sure_one_of c k more _ after _ _ later _ h s) = rise_low more behind after next end later forks s
rise_low ps behind tokens next end p forks (sure_group g a more _ _ mid _ _ inside later choices inner outer _ t s u) =
    omega (arith, height_followed inside later, rise_low a.parts (more ++ behind) tokens mid end inside inner s, rise_low more behind mid next end later outer u)
rise_low ps behind tokens next end p forks (sure_rule r a more _ _ mid _ _ inside later choices inner outer _ t s u) =
    omega (arith, height_followed (made r inside) later, rise_made_low r inside (rise_of a.parts (more ++ behind) tokens mid end inside inner s) (rise_low a.parts (more ++ behind) tokens mid end inside inner s), rise_low more behind mid next end later outer u)
rise_low ps behind tokens next end p forks (sure_group_apart g a more _ _ mid _ _ inside later inner outer _ e s u) =
    omega (arith, height_followed inside later, rise_low a.parts [] tokens mid mid inside inner s, rise_low more behind mid next end later outer u)
rise_low ps behind tokens next end p forks (sure_rule_apart r a more _ _ mid _ _ inside later inner outer _ e s u) =
    omega (arith, height_followed (made r inside) later, rise_made_low r inside (rise_of a.parts [] tokens mid mid inside inner s) (rise_low a.parts [] tokens mid mid inside inner s), rise_low more behind mid next end later outer u)

rise_if_high : (b : Bool) (r : Rule) (p : Pieces) (n : ℕ) → min (height p) 1000 ≤ n → min (height (if b then p else node r p nothing)) 1000 ≤ (if b then n else one_more n)
rise_if_high true r p n h = h
rise_if_high false r p n h = omega (arith, h)

pub rise_made_high : (r : Rule) (p : Pieces) (n : ℕ) → min (height p) 1000 ≤ n → min (height (made r p)) 1000 ≤ rise_made r p n
rise_made_high r p n h = rise_if_high (makes_no_node_alone r && is_one_node p) r p n h

-- nor is it fewer than there are, up to 1000
pub rise_high : (ps behind : List Part) (tokens next end : List TokenKind) (p : Pieces) (forks : List Fork) (s : Sure ps behind tokens next end p forks) → min (height p) 1000 ≤ rise_of ps behind tokens next end p forks s
rise_high ps behind tokens next end p forks (sure_none _ _ _) = omega arith
rise_high ps behind tokens next end p forks (sure_token k more _ after _ _ later _ s) = rise_high more behind after next end later forks s
rise_high ps behind tokens next end p forks (sure_one_of c k more _ after _ _ later _ h s) = rise_high more behind after next end later forks s
rise_high ps behind tokens next end p forks (sure_group g a more _ _ mid _ _ inside later choices inner outer _ t s u) =
    omega (arith, height_followed inside later, rise_high a.parts (more ++ behind) tokens mid end inside inner s, rise_high more behind mid next end later outer u)
rise_high ps behind tokens next end p forks (sure_rule r a more _ _ mid _ _ inside later choices inner outer _ t s u) =
    omega (arith, height_followed (made r inside) later, rise_made_high r inside (rise_of a.parts (more ++ behind) tokens mid end inside inner s) (rise_high a.parts (more ++ behind) tokens mid end inside inner s), rise_high more behind mid next end later outer u)
rise_high ps behind tokens next end p forks (sure_group_apart g a more _ _ mid _ _ inside later inner outer _ e s u) =
    omega (arith, height_followed inside later, rise_high a.parts [] tokens mid mid inside inner s, rise_high more behind mid next end later outer u)
rise_high ps behind tokens next end p forks (sure_rule_apart r a more _ _ mid _ _ inside later inner outer _ e s u) =
    omega (arith, height_followed (made r inside) later, rise_made_high r inside (rise_of a.parts [] tokens mid mid inside inner s) (rise_high a.parts [] tokens mid mid inside inner s), rise_high more behind mid next end later outer u)
