use Rattle.std.proofs.Common.{◌≡◌, ◌++◌, ◌∷◌, [], List, ℕ, true, false, sym, ◌∙◌, ap, subst, arith}
use Rattle.std.specs.Result.{IfOk}
use Rattle.std.proofs.lemmas.Grind.{common_steps}
use Rattle.std.proofs.lemmas.Result.{IfOk-weaker}
use Rattle.zig_tree.specs.declared.grammar.Rule.{Rule}
use Rattle.zig_tree.specs.declared.grammar.Rule.TheVariants as rule
use Rattle.zig_tree.specs.Kinds.{is_rule}
use Rattle.zir_scope.specs.Syntax.{Syntax, inside_of, row_in, rule_at}
use Rattle.zir_scope.proofs.Trees.{earlier_steps}
use Rattle.zir_astgen.specs.Entering.{filed, node_entries}
use Rattle.zir_astgen.specs.Filing.{file_known, where_of}
use Rattle.zir_astgen.specs.Outline.{Entry, brace_of, entries, own_containers}
use Rattle.zir_astgen.proofs.EntryLemmas.{container_entered, contains_by_rule, declaration_entered, declares_by_rule, entries_done, entries_past_node, entries_past_token, filed_with, holds_by_rule, into_container_is, into_declaration_is}
use Rattle.zir_astgen.proofs.file.FileSource.+parts.Goals as goal

-- one brace more
braced : (around pushed before old : List ℕ) (brace last : ℕ) → around ≡ pushed → pushed ≡ before ++ brace ∷ [] → before ≡ old → brace ≡ last → around ≡ old ++ last ∷ []
braced around pushed before old brace last a b c d = cc

pub container_parts-returns-clause-filed : goal.container_parts-returns-clause-filed
container_parts-returns-clause-filed t c =
    let f = file_known c.args.self.now in
    let w = where_of c.args.at.now in
    let row = row_in c.args.self.now.outline.now c.kids-row.result.now in
    let braces : c.in_ok-braces.braces.items ≡ c.args.at.now.around.now = c.in_ok-braces.ensures.items ∙ c.as_slice.ensures in
    let around : c.in_ok-around.around ≡ c.args.at.now.around.now ++ brace_of row ∷ [] = braced _ _ _ _ _ _ c.in_ok-around.ensures c.in_ok-push.ensures.items braces c.brace_of.ensures in
    subst (λ (inside : Syntax). IfOk c.row_parts.result (λ t'. filed t' ≡ filed_with f (filed c.args.tables) (node_entries w rule.Container inside))) c.kids-row.ensures.row
    (IfOk-weaker c.row_parts.result _ _ (λ t' h.
    container_entered f w _ row _ (filed c.args.tables) (filed c.in_ok-tables.tables) (filed t') (into_container_is w row _ _ c.lead_of-container.ensures around)
    (c.node_in-held.ensures.row ∙ sym c.kids-row.ensures.row) c.in_ok-tables.ensures.filed h) c.row_parts.ensures.filed)

pub declaration_parts-returns-clause-filed : goal.declaration_parts-returns-clause-filed
declaration_parts-returns-clause-filed t c =
    let f = file_known c.args.self.now in
    let w = where_of c.args.at.now in
    let row = row_in c.args.self.now.outline.now c.kids-row.result.now in
    let containers : c.in_ok-containers.containers ≡ own_containers row =
    c.in_ok-containers.ensures ∙ c.in_ok-own_containers.ensures ∙ ap (λ (l : List ℕ). l ++ own_containers row) c.new-found.ensures.items in
    subst (λ (inside : Syntax). IfOk c.row_parts.result (λ t'. filed t' ≡ filed_with f (filed c.args.tables) (node_entries w rule.Declaration inside))) c.kids-row.ensures.row
    (IfOk-weaker c.row_parts.result _ _ (λ t' h.
    declaration_entered f w _ row _ _ (filed c.args.tables) (filed c.in_ok-tables.tables) (filed c.in_ok-tables-2.tables) (filed t') (into_declaration_is w row _ _ c.declared_token.ensures containers)
    c.content-content.ensures.row c.content-content.ensures.rule c.in_ok-tables.ensures.filed c.in_ok-tables-2.ensures.filed h) c.row_parts.ensures.filed)

pub node_parts-returns-then-same_rule-clause-filed : goal.node_parts-returns-then-same_rule-clause-filed
node_parts-returns-then-same_rule-clause-filed t c =
    let r = rule_at c.args.self.now.outline.now.nodes.now c.args.node in
    let declares : is_rule r rule.Declaration ≡ true = sym (ap (λ (x : Rule). is_rule x rule.Declaration) c.rule_at-rule.ensures) ∙ sym c.same_rule.ensures ∙ c.if-same_rule.true in
    subst (λ (es : List Entry). IfOk c.declaration_parts.result (λ t'. filed t' ≡ filed_with (file_known c.args.self.now) (filed c.args.tables) es))
    (declares_by_rule (where_of c.args.at.now) r (inside_of c.args.self.now.outline.now c.args.node) declares) c.declaration_parts.ensures.filed

pub node_parts-returns-then-same_rule-2-clause-filed : goal.node_parts-returns-then-same_rule-2-clause-filed
node_parts-returns-then-same_rule-2-clause-filed t c =
    let r = rule_at c.args.self.now.outline.now.nodes.now c.args.node in
    let declares : is_rule r rule.Declaration ≡ false = sym (ap (λ (x : Rule). is_rule x rule.Declaration) c.rule_at-rule.ensures) ∙ sym c.same_rule.ensures ∙ c.if-same_rule.false in
    let contains : is_rule r rule.Container ≡ true = sym (ap (λ (x : Rule). is_rule x rule.Container) c.rule_at-rule.ensures) ∙ sym c.same_rule-else-same_rule.ensures ∙ c.if-same_rule-2.true in
    subst (λ (es : List Entry). IfOk c.container_parts.result (λ t'. filed t' ≡ filed_with (file_known c.args.self.now) (filed c.args.tables) es))
    (contains_by_rule (where_of c.args.at.now) r (inside_of c.args.self.now.outline.now c.args.node) declares contains) c.container_parts.ensures.filed

pub node_parts-returns-else-same_rule-2-clause-filed : goal.node_parts-returns-else-same_rule-2-clause-filed
node_parts-returns-else-same_rule-2-clause-filed t c =
    let r = rule_at c.args.self.now.outline.now.nodes.now c.args.node in
    let declares : is_rule r rule.Declaration ≡ false = sym (ap (λ (x : Rule). is_rule x rule.Declaration) c.rule_at-rule.ensures) ∙ sym c.same_rule.ensures ∙ c.if-same_rule.false in
    let contains : is_rule r rule.Container ≡ false = sym (ap (λ (x : Rule). is_rule x rule.Container) c.rule_at-rule.ensures) ∙ sym c.same_rule-else-same_rule.ensures ∙ c.if-same_rule-2.false in
    subst (λ (es : List Entry). IfOk c.row_parts.result (λ t'. filed t' ≡ filed_with (file_known c.args.self.now) (filed c.args.tables) es))
    (ap (entries (where_of c.args.at.now)) c.kids.ensures.row ∙ holds_by_rule (where_of c.args.at.now) r (inside_of c.args.self.now.outline.now c.args.node) declares contains) c.row_parts.ensures.filed

pub row_parts-loop-rest-preserved-in-Token : goal.row_parts-loop-rest-preserved-in-Token
row_parts-loop-rest-preserved-in-Token t c = record {
  within = c.loop-rest.invariant.within;
  counted = entries_past_token (file_known c.args.self.now) (where_of c.args.at.now) c.args.self.now.outline.now c.loop-rest.rest.now _ c.in-Token.field-0 (filed c.loop-rest.tables) _ (omega arith) c.in-Token.is c.loop-rest.invariant.counted;
  earlier = grind (arith, common_steps, earlier_steps);
}

pub row_parts-loop-rest-preserved : goal.row_parts-loop-rest-preserved
row_parts-loop-rest-preserved t c = record {
  within = c.in_ok-tables-in-Node.ensures.within;
  counted = entries_past_node (file_known c.args.self.now) (where_of c.args.at.now) c.args.self.now.outline.now c.loop-rest.rest.now _ c.in-Node.node (filed c.loop-rest.tables) (filed c.in_ok-tables-in-Node.tables) _ (omega arith) c.in-Node.is c.in_ok-tables-in-Node.ensures.filed c.loop-rest.invariant.counted;
  earlier = grind (arith, common_steps, earlier_steps);
}

pub row_parts-returns-clause-filed : goal.row_parts-returns-clause-filed
row_parts-returns-clause-filed t c = entries_done (file_known c.args.self.now) (where_of c.args.at.now) c.args.self.now.outline.now c.loop-rest.rest.now (filed c.loop-rest.tables) _ c.in_default.len_below c.loop-rest.invariant.counted
