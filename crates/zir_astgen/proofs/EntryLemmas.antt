-- What the declarations and containers of a file add to its parts, entry by entry.
use Rattle.std.proofs.Common.{◌≡◌, ℕ, ◌<◌, ◌≤◌, Bool, true, false, if◌then◌else◌, List, [], ◌∷◌, ◌++◌, length, get_or, refl, sym, ◌∙◌, ap, arith, append_assoc}
use Rattle.std.proofs.lemmas.List.{append-nil}
use Rattle.zig_tree.specs.declared.grammar.Rule.{Rule}
use Rattle.zig_tree.specs.declared.grammar.Rule.TheVariants as rule
use Rattle.zig_tree.specs.declared.token.Token.{Token}
use Rattle.zig_tree.specs.declared.tree.Node.{Node}
use Rattle.zig_tree.specs.declared.tree.Kid.{Kid}
use Rattle.zig_tree.specs.declared.tree.Kid.TheVariants as kid
use Rattle.zig_tree.specs.Kinds.{is_rule, number_of_rule}
use Rattle.zir_form.specs.File.{Block, Container, CoreFile, Declaration, Import}
use Rattle.zir_form.specs.Tables.{ZirState, file_in}
use Rattle.zir_form.specs.declared.table.ImportRow.{ImportRow}
use Rattle.zir_scope.specs.declared.captures.Capture.{Capture}
use Rattle.zir_scope.specs.declared.event.Event.{Event}
use Rattle.zir_scope.specs.declared.facts.Fact.{Fact}
use Rattle.zir_scope.specs.declared.outline.Outline.{Outline}
use Rattle.zir_scope.specs.Captures.{captures_of}
use Rattle.zir_scope.specs.Facts.{facts_of}
use Rattle.zir_scope.specs.Findings.{scoped}
use Rattle.zir_scope.specs.Syntax.{Syntax, nothing, rule_at, row_at, row_in, rows_of, inside_of}
use Rattle.zir_astgen.specs.declared.sheet.Tables.{Tables}
use Rattle.zir_astgen.specs.Entering.{filed, node_entries}
use Rattle.zir_astgen.specs.Filing.{imported}
use Rattle.zir_astgen.specs.Files.{block_by, blocks_of, container, containers_of, content_of, content_rule, core_file, core_of, declarations_of, declared_by, file_of, imports_of}
use Rattle.zir_astgen.specs.Outline.{Entry, Where, brace_of, contains_there, declared_token, declares_there, entries, in_file, into_container, into_declaration, own_containers}
use Rattle.zir_astgen.specs.Parts.{lead_of}
use Rattle.zir_astgen.specs.Rows.{Filed, filed_more}
use Rattle.zir_astgen.specs.Site.{File}
use Rattle.zir_astgen.proofs.IndexLemmas.{behind, behind_first}
use Rattle.zir_astgen.proofs.RowLemmas.{filed_none}

-- ---- entries in a row

declarations_join : (f : File) (xs ys : List Entry) → declarations_of f (xs ++ ys) ≡ declarations_of f xs ++ declarations_of f ys
unfolding declarations_of
declarations_join f [] ys = refl
declarations_join f (declares_there w inside ∷ more) ys =
    let here : List Declaration = declared_by f w inside (content_of inside) (content_rule inside) in
    ap (λ (l : List Declaration). here ++ l) (declarations_join f more ys) ∙ sym (append_assoc here (declarations_of f more) (declarations_of f ys))
declarations_join f (contains_there w inside ∷ more) ys = declarations_join f more ys

containers_join : (f : File) (xs ys : List Entry) → containers_of f (xs ++ ys) ≡ containers_of f xs ++ containers_of f ys
unfolding containers_of
containers_join f [] ys = refl
containers_join f (declares_there w inside ∷ more) ys = containers_join f more ys
containers_join f (contains_there w inside ∷ more) ys = ap (λ (l : List Container). container f w inside ∷ l) (containers_join f more ys)

blocks_join : (f : File) (xs ys : List Entry) → blocks_of f (xs ++ ys) ≡ blocks_of f xs ++ blocks_of f ys
unfolding blocks_of
blocks_join f [] ys = refl
blocks_join f (declares_there w inside ∷ more) ys =
    let here : List Block = block_by f w inside in
    ap (λ (l : List Block). here ++ l) (blocks_join f more ys) ∙ sym (append_assoc here (blocks_of f more) (blocks_of f ys))
blocks_join f (contains_there w inside ∷ more) ys = blocks_join f more ys

-- ---- with what these entries add

abbrev pub filed_with : File → Filed → List Entry → Filed
filed_with f had es = filed_more had (declarations_of f es) (containers_of f es) (blocks_of f es)

filed_again : (had : Filed) (ds es : List Declaration) (cs fs : List Container) (bs gs : List Block) → filed_more (filed_more had ds cs bs) es fs gs ≡ filed_more had (ds ++ es) (cs ++ fs) (bs ++ gs)
filed_again had ds es cs fs bs gs =
    ap (λ (l : List Declaration). record { declarations = l; containers = (had.containers ++ cs) ++ fs; blocks = (had.blocks ++ bs) ++ gs }) (append_assoc had.declarations ds es)
    ∙ ap (λ (l : List Container). record { declarations = had.declarations ++ (ds ++ es); containers = l; blocks = (had.blocks ++ bs) ++ gs }) (append_assoc had.containers cs fs)
    ∙ ap (λ (l : List Block). record { declarations = had.declarations ++ (ds ++ es); containers = had.containers ++ (cs ++ fs); blocks = l }) (append_assoc had.blocks bs gs)

filed_join : (f : File) (had : Filed) (xs ys : List Entry) → filed_with f had (xs ++ ys) ≡ filed_with f (filed_with f had xs) ys
filed_join f had xs ys =
    ap (λ (l : List Declaration). filed_more had l (containers_of f (xs ++ ys)) (blocks_of f (xs ++ ys))) (declarations_join f xs ys)
    ∙ ap (λ (l : List Container). filed_more had (declarations_of f xs ++ declarations_of f ys) l (blocks_of f (xs ++ ys))) (containers_join f xs ys)
    ∙ ap (λ (l : List Block). filed_more had (declarations_of f xs ++ declarations_of f ys) (containers_of f xs ++ containers_of f ys) l) (blocks_join f xs ys)
    ∙ sym (filed_again had (declarations_of f xs) (declarations_of f ys) (containers_of f xs) (containers_of f ys) (blocks_of f xs) (blocks_of f ys))

-- ---- row by row

nothing_added : (f : File) (w : Where) (had : Filed) → filed_with f had (entries w nothing) ≡ had
unfolding entries declarations_of containers_of blocks_of
nothing_added f w had = filed_none had

entries_word : (w : Where) (t : ℕ) (o : Outline) (more : List Kid) → entries w (row_in o (kid.Token t ∷ more)) ≡ entries w (row_in o more)
unfolding entries row_in
entries_word w t o more = refl

entries_node : (w : Where) (n : ℕ) (o : Outline) (more : List Kid)
    → entries w (row_in o (kid.Node n ∷ more)) ≡ node_entries w (rule_at o.nodes.now n) (inside_of o n) ++ entries w (row_in o more)
unfolding entries node_entries row_in inside_of
entries_node w n o more = refl

-- what a row adds in all stays, as its kids are passed
pub entries_done : (f : File) (w : Where) (o : Outline) (rest : List Kid) (had whole : Filed) → length rest < 1 → filed_with f had (entries w (row_in o rest)) ≡ whole → had ≡ whole
unfolding row_in
entries_done f w o [] had whole lt h = sym (nothing_added f w had) ∙ h
entries_done f w o (k ∷ more) had whole lt h = absurd (omega (arith, lt))

pub entries_past_token : (f : File) (w : Where) (o : Outline) (rest : List Kid) (none : Kid) (t : ℕ) (had whole : Filed) → 1 ≤ length rest → get_or rest 0 none ≡ kid.Token t
    → filed_with f had (entries w (row_in o rest)) ≡ whole → filed_with f had (entries w (row_in o (behind rest))) ≡ whole
entries_past_token f w o [] none t had whole le is h = absurd (omega (arith, le))
entries_past_token f w o (kid.Token u ∷ more) none t had whole le is h =
    ap (λ (l : List Kid). filed_with f had (entries w (row_in o l))) (behind_first (kid.Token u) more)
    ∙ ap (λ (es : List Entry). filed_with f had es) (sym (entries_word w u o more)) ∙ h
entries_past_token f w o (kid.Node n ∷ more) none t had whole le is h = absurd (cc)

pub entries_past_node : (f : File) (w : Where) (o : Outline) (rest : List Kid) (none : Kid) (n : ℕ) (had now whole : Filed) → 1 ≤ length rest → get_or rest 0 none ≡ kid.Node n
    → now ≡ filed_with f had (node_entries w (rule_at o.nodes.now n) (inside_of o n))
    → filed_with f had (entries w (row_in o rest)) ≡ whole → filed_with f now (entries w (row_in o (behind rest))) ≡ whole
entries_past_node f w o [] none n had now whole le is e h = absurd (omega (arith, le))
entries_past_node f w o (kid.Token u ∷ more) none n had now whole le is e h = absurd (cc)
entries_past_node f w o (kid.Node m ∷ more) none n had now whole le is e h =
    let same : n ≡ m = cc in
    let here : now ≡ filed_with f had (node_entries w (rule_at o.nodes.now m) (inside_of o m)) = e ∙ ap (λ (i : ℕ). filed_with f had (node_entries w (rule_at o.nodes.now i) (inside_of o i))) same in
    ap (λ (l : List Kid). filed_with f now (entries w (row_in o l))) (behind_first (kid.Node m) more)
    ∙ ap (λ (x : Filed). filed_with f x (entries w (row_in o more))) here
    ∙ sym (filed_join f had (node_entries w (rule_at o.nodes.now m) (inside_of o m)) (entries w (row_in o more)))
    ∙ ap (λ (es : List Entry). filed_with f had es) (sym (entries_node w m o more)) ∙ h

-- ---- where what a node holds stands

pub into_declaration_is : (w : Where) (inside : Syntax) (owner : ℕ) (containers : List ℕ) → owner ≡ declared_token inside → containers ≡ own_containers inside
    → record w { owner = owner; containers = containers } ≡ into_declaration w inside
into_declaration_is w inside owner containers first second =
    ap (λ (t : ℕ). record w { owner = t; containers = containers }) first ∙ ap (λ (l : List ℕ). record w { owner = declared_token inside; containers = l }) second

pub into_container_is : (w : Where) (inside : Syntax) (container : ℕ) (around : List ℕ) → container ≡ lead_of inside → around ≡ w.around ++ brace_of inside ∷ []
    → record w { container = container; around = around } ≡ into_container w inside
into_container_is w inside container around first second =
    ap (λ (t : ℕ). record w { container = t; around = around }) first ∙ ap (λ (l : List ℕ). record w { container = lead_of inside; around = l }) second

-- ---- node by node

one_declaration : (f : File) (w : Where) (inside : Syntax) (had : Filed)
    → filed_more (filed_more had (declared_by f w inside (content_of inside) (content_rule inside)) [] []) [] [] (block_by f w inside) ≡ filed_with f had (declares_there w inside ∷ [])
unfolding declarations_of containers_of blocks_of
one_declaration f w inside had =
    let ds : List Declaration = declared_by f w inside (content_of inside) (content_rule inside) in
    let bs : List Block = block_by f w inside in
    filed_again had ds [] [] [] [] bs ∙ ap (λ (l : List Block). filed_more had (ds ++ []) [] l) (sym (append-nil bs))

-- a declaration: its own parts, and those within it
pub declaration_entered : (f : File) (w inner : Where) (inside content : Syntax) (r : Rule) (had own more now : Filed) → inner ≡ into_declaration w inside → content ≡ content_of inside → r ≡ content_rule inside
    → own ≡ filed_more had (declared_by f inner inside content r) [] [] → more ≡ filed_more own [] [] (block_by f inner inside) → now ≡ filed_with f more (entries inner inside)
    → now ≡ filed_with f had (node_entries w rule.Declaration inside)
unfolding node_entries number_of_rule
declaration_entered f w inner inside content r had own more now i c k first second third =
    let here : own ≡ filed_more had (declared_by f inner inside (content_of inside) (content_rule inside)) [] [] =
    first ∙ ap (λ (x : Syntax). filed_more had (declared_by f inner inside x r) [] []) c ∙ ap (λ (x : Rule). filed_more had (declared_by f inner inside (content_of inside) x) [] []) k in
    let both : more ≡ filed_with f had (declares_there inner inside ∷ []) = second ∙ ap (λ (x : Filed). filed_more x [] [] (block_by f inner inside)) here ∙ one_declaration f inner inside had in
    third
    ∙ ap (λ (x : Filed). filed_with f x (entries inner inside)) both
    ∙ sym (filed_join f had (declares_there inner inside ∷ []) (entries inner inside))
    ∙ ap (λ (v : Where). filed_with f had (declares_there v inside ∷ entries v inside)) i

one_container : (f : File) (w : Where) (inside : Syntax) (had : Filed) → filed_more had [] (container f w inside ∷ []) [] ≡ filed_with f had (contains_there w inside ∷ [])
unfolding declarations_of containers_of blocks_of
one_container f w inside had = refl

-- a container: its fields, and the parts within it
pub container_entered : (f : File) (w inner : Where) (inside held : Syntax) (had own now : Filed) → inner ≡ into_container w inside → held ≡ inside
    → own ≡ filed_more had [] (container f inner held ∷ []) [] → now ≡ filed_with f own (entries inner inside)
    → now ≡ filed_with f had (node_entries w rule.Container inside)
unfolding node_entries number_of_rule
container_entered f w inner inside held had own now i same first second =
    let here : own ≡ filed_more had [] (container f inner inside ∷ []) [] = first ∙ ap (λ (x : Syntax). filed_more had [] (container f inner x ∷ []) []) same in
    second
    ∙ ap (λ (x : Filed). filed_with f x (entries inner inside)) (here ∙ one_container f inner inside had)
    ∙ sym (filed_join f had (contains_there inner inside ∷ []) (entries inner inside))
    ∙ ap (λ (v : Where). filed_with f had (contains_there v inside ∷ entries v inside)) i

-- what a node adds by its rule
abbrev by_rule : Where → Syntax → Bool → Bool → List Entry
by_rule w inside d c =
    (if d then declares_there (into_declaration w inside) inside ∷ [] else (if c then contains_there (into_container w inside) inside ∷ [] else []))
    ++ entries (if d then into_declaration w inside else (if c then into_container w inside else w)) inside

node_by_rule : (w : Where) (r : Rule) (inside : Syntax) (d c : Bool) → is_rule r rule.Declaration ≡ d → is_rule r rule.Container ≡ c → node_entries w r inside ≡ by_rule w inside d c
unfolding node_entries
node_by_rule w r inside d c e k = ap (λ (b : Bool). by_rule w inside b (is_rule r rule.Container)) e ∙ ap (λ (b : Bool). by_rule w inside d b) k

pub declares_by_rule : (w : Where) (r : Rule) (inside : Syntax) → is_rule r rule.Declaration ≡ true → node_entries w rule.Declaration inside ≡ node_entries w r inside
unfolding node_entries number_of_rule
declares_by_rule w r inside d = sym (node_by_rule w r inside true (is_rule r rule.Container) d refl)

pub contains_by_rule : (w : Where) (r : Rule) (inside : Syntax) → is_rule r rule.Declaration ≡ false → is_rule r rule.Container ≡ true → node_entries w rule.Container inside ≡ node_entries w r inside
unfolding node_entries number_of_rule
contains_by_rule w r inside d c = sym (node_by_rule w r inside false true d c)

pub holds_by_rule : (w : Where) (r : Rule) (inside : Syntax) → is_rule r rule.Declaration ≡ false → is_rule r rule.Container ≡ false → entries w inside ≡ node_entries w r inside
holds_by_rule w r inside d c = sym (node_by_rule w r inside false false d c)

-- ---- the file

-- where the members of a file stand
pub in_file_is : (around containers pushed empty : List ℕ) → around ≡ pushed → pushed ≡ empty ++ 0 ∷ [] → empty ≡ [] → containers ≡ []
    → record { container = 0; around = around; owner = 0; containers = containers } ≡ in_file
in_file_is around containers pushed empty a b c e =
    ap (λ (l : List ℕ). record { container = 0; around = l; owner = 0; containers = containers }) (a ∙ b ∙ ap (λ (l : List ℕ). l ++ 0 ∷ []) c)
    ∙ ap (λ (l : List ℕ). record { container = 0; around = 0 ∷ []; owner = 0; containers = l }) e

-- the parts of a file with its imports
abbrev pub with_imports : Filed → List Import → CoreFile
with_imports x imports = record { declarations = x.declarations; containers = x.containers; blocks = x.blocks; imports = imports }

abbrev none_filed : Filed
none_filed = record { declarations = []; containers = []; blocks = [] }

pub file_entered : (f : File) (w : Where) (row inside : Syntax) (had now : Filed) (imports : List Import) → w ≡ in_file → row ≡ inside → had ≡ none_filed
    → now ≡ filed_with f had (entries w row) → imports ≡ imports_of f row → with_imports now imports ≡ core_of f inside
unfolding core_of
file_entered f w row inside had now imports i r h n m =
    ap (λ (x : Filed). with_imports x imports)
    (n ∙ ap (λ (x : Filed). filed_with f x (entries w row)) h ∙ ap (λ (v : Where). filed_with f none_filed (entries v row)) i
    ∙ ap (λ (s : Syntax). filed_with f none_filed (entries in_file s)) r)
    ∙ ap (λ (l : List Import). with_imports (filed_with f none_filed (entries in_file inside)) l) (m ∙ ap (imports_of f) r)

-- a Zir of these parts stands for them
pub file_kept : (z : ZirState) (t : Tables) (rows : List ImportRow) (file : CoreFile)
    → z ≡ record { lines = t.sheet.lines; declarations = t.rows.declarations.items; containers = t.rows.containers.items; blocks = t.rows.blocks.items; imports = rows }
    → with_imports (filed t) (imported rows) ≡ file → file_in z ≡ file
unfolding file_in
file_kept z t rows file e h = ap file_in e ∙ h

-- what is known of a file, by its text and its tree
pub file_is : (text : List ℕ) (tokens : List Token) (nodes : List Node) (root : ℕ) (facts : List Fact) (events : List Event) (captures : List Capture)
    → facts ≡ facts_of text tokens → events ≡ scoped text tokens nodes root → captures ≡ captures_of (scoped text tokens nodes root)
    → record { text = text; tokens = tokens; facts = facts; events = events; captures = captures } ≡ file_of text tokens nodes root
file_is text tokens nodes root facts events captures a b c =
    ap (λ (l : List Fact). record { text = text; tokens = tokens; facts = l; events = events; captures = captures }) a
    ∙ ap (λ (l : List Event). record { text = text; tokens = tokens; facts = facts_of text tokens; events = l; captures = captures }) b
    ∙ ap (λ (l : List Capture). record { text = text; tokens = tokens; facts = facts_of text tokens; events = scoped text tokens nodes root; captures = l }) c

pub core_is : (o : Outline) (f : File) (text : List ℕ) (tokens : List Token) (nodes : List Node) (root : ℕ) → o.tokens.now ≡ tokens → o.nodes.now ≡ nodes → f ≡ file_of text tokens nodes root
    → core_of f (inside_of o root) ≡ core_file text tokens nodes root
unfolding core_file inside_of
core_is o f text tokens nodes root a b c =
    ap (λ (ts : List Token). core_of f (row_at (rows_of ts o.nodes.now) root)) a
    ∙ ap (λ (ns : List Node). core_of f (row_at (rows_of tokens ns) root)) b
    ∙ ap (λ (x : File). core_of x (row_at (rows_of tokens nodes) root)) c
