-- The stages of a file, one after another.
use Rattle.std.proofs.Common.{◌≡◌, ℕ, ◌+◌, ◌-◌, List, [], ◌++◌, length, Bool, true, false, ◌==◌, Option, Some, Result, Ok, refl, ap, sym, ◌∙◌, subst, arith, ◌∷◌}
use Rattle.std.specs.Option.{option_map}
use Rattle.zw_base.specs.declared.diag.Found.{Found}
use Rattle.zig_tree.specs.declared.token.Token.{Token}
use Rattle.zig_tree.specs.declared.tree.Node.{Node}
use Rattle.zig_token.specs.Scan.{tokens_of}
use Rattle.zig_parse.specs.Growth.{parse_of}
use Rattle.zir_form.specs.File.{CoreFile}
use Rattle.zir_form.specs.declared.front.Front.{Front}
use Rattle.zir_form.specs.Front.{FileFront, front_in}
use Rattle.zir_form.specs.Tables.{ZirState, file_in}
use Rattle.zir_scope.specs.Findings.{scope_faults}
use Rattle.zir_astgen.specs.Calls.{builtin_faults}
use Rattle.zir_astgen.specs.Files.{core_file}
use Rattle.built_forms.specs.Unbuilt.{unbuilt}
use Rattle.watch_core.specs.declared.front.Stop.{Stop}
use Rattle.watch_core.specs.Front.{faults_or, form_faults, front_of, front_of_nodes, front_of_tokens, with_tree}
use Rattle.watch_core.specs.Stages.{StopsAt}

-- tokens that have no tree
pub no_tree : (text : List ℕ) (list tokens : List Token) (stop : Stop) → tokens_of text ≡ Ok list → tokens ≡ list → StopsAt (front_of_nodes text tokens (parse_of tokens)) stop → StopsAt (front_of text) stop
unfolding front_of
no_tree text list tokens stop t same h =
    let there : front_of_tokens text (tokens_of text) ≡ front_of_nodes text tokens (parse_of tokens) = ap (front_of_tokens text) t ∙ ap (λ (ts : List Token). front_of_nodes text ts (parse_of ts)) (sym same) in
    subst (λ (f : FileFront). StopsAt f stop) (sym there) h

-- a front of these parts
abbrev pub made_of : List Found → Option CoreFile → FileFront
made_of found core = record { found = found; core = core }

one_less : (root n : ℕ) → root + 1 ≡ n → n - 1 ≡ root
one_less root n e = omega arith

-- the front that all stages give
pub with_stages : (text : List ℕ) (list tokens : List Token) (nodes : List Node) (root : ℕ) (scopes calls named : List Found) (zir : ZirState) (front : Front)
    → tokens_of text ≡ Ok list → tokens ≡ list → parse_of tokens ≡ Ok nodes → root + 1 ≡ length nodes
    → scopes ≡ scope_faults text tokens nodes root → calls ≡ builtin_faults text tokens nodes root → file_in zir ≡ core_file text tokens nodes root
    → named ≡ scopes ++ calls → front.found ≡ faults_or named (form_faults tokens (unbuilt text tokens nodes root)) → front.zir ≡ Some zir → front_in front ≡ front_of text
unfolding front_of front_in
with_stages text list tokens nodes root scopes calls named zir front t same p last s b z both found core =
    let sum : named ≡ scope_faults text tokens nodes root ++ builtin_faults text tokens nodes root = both ∙ ap (λ (x : List Found). x ++ calls) s ∙ ap (λ (x : List Found). scope_faults text tokens nodes root ++ x) b in
    let all : front.found ≡ (with_tree text tokens nodes root).found = found ∙ ap (λ (x : List Found). faults_or x (form_faults tokens (unbuilt text tokens nodes root))) sum in
    let tree : option_map file_in front.zir ≡ Some (core_file text tokens nodes root) = ap (option_map file_in) core ∙ ap Some z in
    ap (λ (x : List Found). made_of x (option_map file_in front.zir)) all
    ∙ ap (made_of (with_tree text tokens nodes root).found) tree
    ∙ sym (ap (with_tree text tokens nodes) (one_less root (length nodes) last))
    ∙ sym (ap (front_of_nodes text tokens) p)
    ∙ sym (ap (front_of_tokens text) t ∙ ap (λ (ts : List Token). front_of_nodes text ts (parse_of ts)) (sym same))

-- where something is wrong, nothing else is looked for
pub faults_some : (found others : List Found) → (length found == 0) ≡ false → found ≡ faults_or found others
faults_some [] others e = absurd (cc)
faults_some (f ∷ fs) others e = refl

pub faults_none : (found others : List Found) → (length found == 0) ≡ true → others ≡ faults_or found others
faults_none [] others e = refl
faults_none (f ∷ fs) others e = let some : (length (f ∷ fs) == 0) ≡ false = grind arith in absurd (cc)
