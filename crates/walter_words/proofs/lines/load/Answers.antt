use Rattle.std.proofs.Common.{ℕ, codes, rules, true, ap, ap₂, false, ◌≡◌, ◌∙◌, ◌||◌}
use Rattle.std.specs.Prelude.{Some}
use Rattle.std.proofs.lemmas.Result.{IfOk-weaker}
use Rattle.clap.specs.Words.{Rule, Text, app_of, new_app, rule_of, with_rule}
use Rattle.clap.specs.declared.builder.arg.Arg.{Arg}
use Rattle.clap.specs.declared.builder.action.ArgAction.TheVariants.{Set}
use Rattle.clap.specs.declared.builder.command.Command.TheViews.{out-Command as fields_of}
use Rattle.clap.specs.declared.builder.value_parser.ValueParser.{ValueParser}
use Rattle.clap.specs.declared.builder.value_parser.ValueParser.TheVariants.{Unsigned}
use Rattle.walter_words.specs.Lines.{calls_rule, seed_rule}
use Rattle.walter_words.proofs.lines.load.Goals as goal

-- a required option of one number
abbrev numbered : Text → ℕ → Rule → Rule
numbered name most r = record r { long = Some name; value_names = 1; required = true; action = Some Set; parser = Some (Unsigned 0 most) }

pub returns : goal.returns
returns c =
    let seed_given = c.value_parser-2.ensures.given in
    let seed_parser : c.value_parser-2.result.value_parser ≡ Some (Unsigned 0 18446744073709551615) =
    seed_given.1 ∙ ap (λ (q : ValueParser). Some q) (seed_given.2 ∙ c.value_parser.ensures) in
    let calls_given = c.value_parser-4.ensures.given in
    let narrowed : c.range.result ≡ Unsigned 0 20000 = rw c.value_parser-3.ensures at c.range.ensures in
    let calls_parser : c.value_parser-4.result.value_parser ≡ Some (Unsigned 0 20000) =
    calls_given.1 ∙ ap (λ (q : ValueParser). Some q) (calls_given.2 ∙ narrowed) in
    let seed_rest : rule_of (record c.action.result { value_parser = Some (Unsigned 0 18446744073709551615) }) ≡ seed_rule =
    rw (c.action.ensures, c.required.ensures, c.value_name.ensures, c.long.ensures) (ap (numbered (codes "seed") 18446744073709551615) c.new.ensures.rule) in
    let seed_is : rule_of c.help-seed.result ≡ seed_rule = ap rule_of c.help-seed.ensures ∙ (ap rule_of c.value_parser-2.ensures.others
    ∙ (ap (λ q. rule_of (record c.action.result { value_parser = q })) seed_parser ∙ seed_rest)) in
    let calls_rest : rule_of (record c.action-2.result { value_parser = Some (Unsigned 0 20000) }) ≡ calls_rule =
    rw (c.action-2.ensures, c.required-2.ensures, c.value_name-2.ensures, c.long-2.ensures) (ap (numbered (codes "calls") 20000) c.new-2.ensures.rule) in
    let calls_is : rule_of c.help-calls.result ≡ calls_rule = ap rule_of c.help-calls.ensures ∙ (ap rule_of c.value_parser-4.ensures.others
    ∙ (ap (λ q. rule_of (record c.action-2.result { value_parser = q })) calls_parser ∙ calls_rest)) in
    let new_app_is : app_of c.after_help.result ≡ new_app (codes "load") = search rules in
    let new_local : (fields_of c.after_help.result).has_globals ≡ false = search rules in
    let seed_local : c.help-seed.result.global ≡ false = ap (λ (a : Arg). a.global) c.help-seed.ensures ∙ (ap (λ (a : Arg). a.global) c.value_parser-2.ensures.others
    ∙ rw (c.action.ensures, c.required.ensures, c.value_name.ensures, c.long.ensures) c.new.ensures.optional.1) in
    let calls_local : c.help-calls.result.global ≡ false = ap (λ (a : Arg). a.global) c.help-calls.ensures ∙ (ap (λ (a : Arg). a.global) c.value_parser-4.ensures.others
    ∙ rw (c.action-2.ensures, c.required-2.ensures, c.value_name-2.ensures, c.long-2.ensures) c.new-2.ensures.optional.1) in
    let one = c.in_ok-arg.ensures.shape seed_local in
    record {
      line = IfOk-weaker c.arg-2.result _ _ (λ d added. added.shape calls_local
          ∙ ap₂ with_rule (one ∙ ap₂ with_rule new_app_is seed_is) calls_is) c.arg-2.ensures;
      local = IfOk-weaker c.arg-2.result _ _ (λ d added. added.globals
          ∙ (ap (λ b. b || c.help-calls.result.global) c.in_ok-arg.ensures.globals ∙ (ap (λ b. (b || c.help-seed.result.global) || c.help-calls.result.global) new_local
          ∙ (ap (λ b. (false || b) || c.help-calls.result.global) seed_local ∙ calls_local)))) c.arg-2.ensures;
    }
