use Rattle.std.proofs.Common.{◌≡◌, true, false, Some, None, take, get_or, ap, sym, ◌∙◌}
use Rattle.std.specs.List.{list_any}
use Rattle.sc_tokens.specs.Names.{same_bytes}
use Rattle.toml.specs.declared.value.Value.{Value}
use Rattle.sc_tokens.specs.Bytes.{Bytes}
use Rattle.sc_config.proofs.NameLaws.{name_in, doubled_here, doubled_next, doubled_end, double_name_is}
use Rattle.sc_config.proofs.faults.double_name.Goals as goal

pub returns-then-has_name : goal.returns-then-has_name
returns-then-has_name c =
    let name = c.app_text-name.ensures ∙ ap name_in c.index-apps-at.is in
    let stands : list_any (λ (v : Value). same_bytes (name_in v) (name_in (get_or c.args.apps.now c.apps.at c.index-apps-at.result))) (take c.apps.at c.args.apps.now) ≡ true =
    rw (← name) (sym c.has_name.ensures ∙ c.if-has_name.true) in
    let here = doubled_here c.args.apps.now c.apps.at c.index-apps-at.result c.apps-test.true stands in
    ap (λ (text : Bytes). Some (4, text)) name ∙ double_name_is c.args.apps.now c.apps.at _ c.apps.invariant here

pub apps-preserved : goal.apps-preserved
apps-preserved c =
    let name = c.app_text-name.ensures ∙ ap name_in c.index-apps-at.is in
    let new : list_any (λ (v : Value). same_bytes (name_in v) (name_in (get_or c.args.apps.now c.apps.at c.index-apps-at.result))) (take c.apps.at c.args.apps.now) ≡ false =
    rw (← name) (sym c.has_name.ensures ∙ c.if-has_name.false) in
    sym (doubled_next c.args.apps.now c.apps.at c.index-apps-at.result c.apps-test.true new) ∙ c.apps.invariant

pub returns : goal.returns
returns c = double_name_is c.args.apps.now c.apps.at None c.apps.invariant (doubled_end c.args.apps.now c.apps.at c.apps-test.false)
