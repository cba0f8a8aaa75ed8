-- Rows that name lines: they stay as lines are added, and one more is put behind.
use Rattle.std.proofs.Common.{◌≡◌, ℕ, ◌<◌, ◌≤◌, List, [], ◌∷◌, ◌++◌, length, map, Option, Some, None, refl, sym, ◌∙◌, ap, arith}
use Rattle.std.specs.Option.{option_map}
use Rattle.std.proofs.lemmas.List.{append-nil, map-append}
use Rattle.zir_form.specs.Core.{Core}
use Rattle.zir_form.specs.File.{Block, Container, Declaration}
use Rattle.zir_form.specs.Lines.{tree_at}
use Rattle.zir_form.specs.Tables.{block_of, container_of, declaration_of}
use Rattle.zir_form.specs.declared.table.BlockRow.{BlockRow}
use Rattle.zir_form.specs.declared.table.ContainerRow.{ContainerRow}
use Rattle.zir_form.specs.declared.table.DeclarationRow.{DeclarationRow}
use Rattle.zir_astgen.specs.Firsts.{Grows}
use Rattle.zir_astgen.specs.Rows.{BlocksBelow, ContainersBelow, DeclarationsBelow, Filed, IsBelow, RowsBelow, filed_by, filed_more}
use Rattle.zir_astgen.proofs.AddLemmas.{longer, tree_stays}

-- ---- lines are there

is_below_more : (n m : ℕ) (line : Option ℕ) → n ≤ m → IsBelow n line → IsBelow m line
is_below_more n m None le h = tt
is_below_more n m (Some line) le h = omega (arith, le, h)

declarations_more : (n m : ℕ) (ds : List DeclarationRow) → n ≤ m → DeclarationsBelow n ds → DeclarationsBelow m ds
declarations_more n m [] le h = tt
declarations_more n m (r ∷ more) le h = let here : r.whole < n = h.1 in (is_below_more n m r.head le h.0, omega (arith, here, le), declarations_more n m more le h.2)

containers_more : (n m : ℕ) (cs : List ContainerRow) → n ≤ m → ContainersBelow n cs → ContainersBelow m cs
containers_more n m [] le h = tt
containers_more n m (r ∷ more) le h = let here : r.fields < n = h.0 in (omega (arith, here, le), containers_more n m more le h.1)

blocks_more : (n m : ℕ) (bs : List BlockRow) → n ≤ m → BlocksBelow n bs → BlocksBelow m bs
blocks_more n m [] le h = tt
blocks_more n m (r ∷ more) le h = let here : r.line < n = h.0 in (omega (arith, here, le), blocks_more n m more le h.1)

pub rows_stay : (old now : List Core) (ds : List DeclarationRow) (cs : List ContainerRow) (bs : List BlockRow) → Grows old now → RowsBelow (length old) ds cs bs → RowsBelow (length now) ds cs bs
rows_stay old now ds cs bs g h =
    let le : length old ≤ length now = longer old now g in
    record {
      declarations = declarations_more (length old) (length now) ds le h.declarations;
      containers = containers_more (length old) (length now) cs le h.containers;
      blocks = blocks_more (length old) (length now) bs le h.blocks;
    }

-- ---- what they stand for stays

head_stays : (old now : List Core) (line : Option ℕ) → Grows old now → IsBelow (length old) line → option_map (tree_at now) line ≡ option_map (tree_at old) line
head_stays old now None g h = refl
head_stays old now (Some line) g h = ap (λ (c : Core). Some c) (tree_stays old now line g h)

declaration_stays : (old now : List Core) (r : DeclarationRow) → Grows old now → IsBelow (length old) r.head → r.whole < length old → declaration_of now r ≡ declaration_of old r
declaration_stays old now r g head whole =
    ap (λ (h : Option Core). record (declaration_of now r) { head = h }) (head_stays old now r.head g head)
    ∙ ap (λ (c : Core). record (declaration_of old r) { whole = c }) (tree_stays old now r.whole g whole)

declarations_stay : (old now : List Core) (ds : List DeclarationRow) → Grows old now → DeclarationsBelow (length old) ds → map (declaration_of now) ds ≡ map (declaration_of old) ds
declarations_stay old now [] g h = refl
declarations_stay old now (r ∷ more) g h =
    ap (λ (d : Declaration). d ∷ map (declaration_of now) more) (declaration_stays old now r g h.0 h.1)
    ∙ ap (λ (ds : List Declaration). declaration_of old r ∷ ds) (declarations_stay old now more g h.2)

containers_stay : (old now : List Core) (cs : List ContainerRow) → Grows old now → ContainersBelow (length old) cs → map (container_of now) cs ≡ map (container_of old) cs
containers_stay old now [] g h = refl
containers_stay old now (r ∷ more) g h =
    ap (λ (c : Core). record (container_of now r) { fields = c } ∷ map (container_of now) more) (tree_stays old now r.fields g h.0)
    ∙ ap (λ (cs : List Container). container_of old r ∷ cs) (containers_stay old now more g h.1)

blocks_stay : (old now : List Core) (bs : List BlockRow) → Grows old now → BlocksBelow (length old) bs → map (block_of now) bs ≡ map (block_of old) bs
blocks_stay old now [] g h = refl
blocks_stay old now (r ∷ more) g h =
    ap (λ (c : Core). record (block_of now r) { tree = c } ∷ map (block_of now) more) (tree_stays old now r.line g h.0)
    ∙ ap (λ (bs : List Block). block_of old r ∷ bs) (blocks_stay old now more g h.1)

pub filed_stays : (old now : List Core) (ds : List DeclarationRow) (cs : List ContainerRow) (bs : List BlockRow) → Grows old now → RowsBelow (length old) ds cs bs
    → filed_by now ds cs bs ≡ filed_by old ds cs bs
filed_stays old now ds cs bs g h =
    ap (λ (x : List Declaration). record (filed_by now ds cs bs) { declarations = x }) (declarations_stay old now ds g h.declarations)
    ∙ ap (λ (x : List Container). record (filed_by now ds cs bs) { declarations = map (declaration_of old) ds; containers = x }) (containers_stay old now cs g h.containers)
    ∙ ap (λ (x : List Block). record (filed_by old ds cs bs) { blocks = x }) (blocks_stay old now bs g h.blocks)

pub ruleset row_steps = (rows_stay, filed_stays)

-- ---- one row more

declarations_push : (n : ℕ) (ds : List DeclarationRow) (r : DeclarationRow) → DeclarationsBelow n ds → IsBelow n r.head → r.whole < n → DeclarationsBelow n (ds ++ r ∷ [])
declarations_push n [] r h head whole = (head, whole, tt)
declarations_push n (d ∷ more) r h head whole = (h.0, h.1, declarations_push n more r h.2 head whole)

pub declaration_enters : (n : ℕ) (ds after : List DeclarationRow) (cs : List ContainerRow) (bs : List BlockRow) (r : DeclarationRow) → RowsBelow n ds cs bs → IsBelow n r.head → r.whole < n → after ≡ ds ++ r ∷ []
    → RowsBelow n after cs bs
declaration_enters n ds after cs bs r h head whole e = rw e (record { declarations = declarations_push n ds r h.declarations head whole; containers = h.containers; blocks = h.blocks })

pub declaration_filed : (t : List Core) (ds after : List DeclarationRow) (cs : List ContainerRow) (bs : List BlockRow) (r : DeclarationRow) → after ≡ ds ++ r ∷ []
    → filed_by t after cs bs ≡ filed_more (filed_by t ds cs bs) (declaration_of t r ∷ []) [] []
declaration_filed t ds after cs bs r e =
    ap (λ (x : List DeclarationRow). filed_by t x cs bs) e
    ∙ ap (λ (x : List Declaration). record (filed_by t ds cs bs) { declarations = x }) (map-append (declaration_of t) ds (r ∷ []))
    ∙ ap (λ (x : List Container). record (filed_by t ds cs bs) { declarations = map (declaration_of t) ds ++ declaration_of t r ∷ []; containers = x }) (sym (append-nil (map (container_of t) cs)))
    ∙ ap (λ (x : List Block). record (filed_by t ds cs bs) { declarations = map (declaration_of t) ds ++ declaration_of t r ∷ []; containers = map (container_of t) cs ++ []; blocks = x }) (sym (append-nil (map (block_of t) bs)))

containers_push : (n : ℕ) (cs : List ContainerRow) (r : ContainerRow) → ContainersBelow n cs → r.fields < n → ContainersBelow n (cs ++ r ∷ [])
containers_push n [] r h lt = (lt, tt)
containers_push n (c ∷ more) r h lt = (h.0, containers_push n more r h.1 lt)

pub container_enters : (n : ℕ) (ds : List DeclarationRow) (cs after : List ContainerRow) (bs : List BlockRow) (r : ContainerRow) → RowsBelow n ds cs bs → r.fields < n → after ≡ cs ++ r ∷ [] → RowsBelow n ds after bs
container_enters n ds cs after bs r h lt e = rw e (record { declarations = h.declarations; containers = containers_push n cs r h.containers lt; blocks = h.blocks })

pub container_filed : (t : List Core) (ds : List DeclarationRow) (cs after : List ContainerRow) (bs : List BlockRow) (r : ContainerRow) → after ≡ cs ++ r ∷ []
    → filed_by t ds after bs ≡ filed_more (filed_by t ds cs bs) [] (container_of t r ∷ []) []
container_filed t ds cs after bs r e =
    ap (λ (x : List ContainerRow). filed_by t ds x bs) e
    ∙ ap (λ (x : List Container). record (filed_by t ds cs bs) { containers = x }) (map-append (container_of t) cs (r ∷ []))
    ∙ ap (λ (x : List Declaration). record { declarations = x; containers = map (container_of t) cs ++ container_of t r ∷ []; blocks = map (block_of t) bs }) (sym (append-nil (map (declaration_of t) ds)))
    ∙ ap (λ (x : List Block). record { declarations = map (declaration_of t) ds ++ []; containers = map (container_of t) cs ++ container_of t r ∷ []; blocks = x }) (sym (append-nil (map (block_of t) bs)))

blocks_push : (n : ℕ) (bs : List BlockRow) (r : BlockRow) → BlocksBelow n bs → r.line < n → BlocksBelow n (bs ++ r ∷ [])
blocks_push n [] r h lt = (lt, tt)
blocks_push n (b ∷ more) r h lt = (h.0, blocks_push n more r h.1 lt)

pub block_enters : (n : ℕ) (ds : List DeclarationRow) (cs : List ContainerRow) (bs after : List BlockRow) (r : BlockRow) → RowsBelow n ds cs bs → r.line < n → after ≡ bs ++ r ∷ [] → RowsBelow n ds cs after
block_enters n ds cs bs after r h lt e = rw e (record { declarations = h.declarations; containers = h.containers; blocks = blocks_push n bs r h.blocks lt })

pub block_filed : (t : List Core) (ds : List DeclarationRow) (cs : List ContainerRow) (bs after : List BlockRow) (r : BlockRow) → after ≡ bs ++ r ∷ []
    → filed_by t ds cs after ≡ filed_more (filed_by t ds cs bs) [] [] (block_of t r ∷ [])
block_filed t ds cs bs after r e =
    ap (λ (x : List BlockRow). filed_by t ds cs x) e
    ∙ ap (λ (x : List Block). record (filed_by t ds cs bs) { blocks = x }) (map-append (block_of t) bs (r ∷ []))
    ∙ ap (λ (x : List Declaration). record { declarations = x; containers = map (container_of t) cs; blocks = map (block_of t) bs ++ block_of t r ∷ [] }) (sym (append-nil (map (declaration_of t) ds)))
    ∙ ap (λ (x : List Container). record { declarations = map (declaration_of t) ds ++ []; containers = x; blocks = map (block_of t) bs ++ block_of t r ∷ [] }) (sym (append-nil (map (container_of t) cs)))

pub ruleset enter_steps = (declaration_enters, declaration_filed, container_enters, container_filed, block_enters, block_filed)

-- nothing more
pub filed_none : (f : Filed) → filed_more f [] [] [] ≡ f
filed_none f =
    ap (λ (x : List Declaration). record { declarations = x; containers = f.containers ++ []; blocks = f.blocks ++ [] }) (append-nil f.declarations)
    ∙ ap (λ (x : List Container). record { declarations = f.declarations; containers = x; blocks = f.blocks ++ [] }) (append-nil f.containers)
    ∙ ap (λ (x : List Block). record { declarations = f.declarations; containers = f.containers; blocks = x }) (append-nil f.blocks)
