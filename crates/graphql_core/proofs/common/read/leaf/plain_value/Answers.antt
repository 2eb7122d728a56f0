use Rattle.std.proofs.Common.{ap, ◌∙◌}
use Rattle.graphql_core.specs.{float, string, int, kind_number}
use Rattle.graphql_core.specs.declared.tokenizer.token.Kind.TheVariants.{IntValue, FloatValue, StringValue, BlockString}
use Rattle.graphql_core.proofs.{int_made, float_made, string_made, integer_side, float_side, string_side, block_side}
use Rattle.graphql_core.proofs.{word_taken, punctuator_stopped, none_stopped, kind_led, whole, fails_last}
use Rattle.graphql_core.proofs.common.read.leaf.plain_value.Goals as goal

-- ---- no value

pub returns-in_default : goal.returns-in_default
returns-in_default g c = none_stopped _ c.in_default.ensures.next

pub returns-in-Punctuator : goal.returns-in-Punctuator
returns-in-Punctuator g c = punctuator_stopped _ _ c.in-Some.ensures.next (ap kind_number c.in-Punctuator.is)

-- ---- names

pub returns-in_ok-value-in-Name : goal.returns-in_ok-value-in-Name
returns-in_ok-value-in-Name g c =
    let (x, takes, means) = word_taken (g.S.TokenSource.items c.args.source.now) _ _ c.in-Some.ensures.next (ap kind_number c.in-Name.is) c.advance.ensures in
    (x, takes, c.in_ok-value-in-Name.ensures ∙ means)

-- ---- values of one token

pub returns-in_ok-int_value-in-IntValue : goal.returns-in_ok-int_value-in-IntValue
returns-in_ok-int_value-in-IntValue g c =
    let lead = kind_led IntValue (g.S.TokenSource.items c.args.source.now) _ (integer_side _) c.in-Some.ensures.next (ap kind_number c.in-IntValue.is) in
    let (x, takes, value) = c.in_ok-int_value-in-IntValue.ensures in
    whole lead takes (int_made _ _ g.S.Names.Names.bytes _ ∙ ap int value)

pub returns-in_err-int_value-in-IntValue : goal.returns-in_err-int_value-in-IntValue
returns-in_err-int_value-in-IntValue g c =
    let lead = kind_led IntValue (g.S.TokenSource.items c.args.source.now) _ (integer_side _) c.in-Some.ensures.next (ap kind_number c.in-IntValue.is) in
    fails_last _ _ _ _ lead c.in_err-int_value-in-IntValue.ensures c.from_residual-in_err-int_value-in-IntValue.ensures.1

pub returns-in_ok-float_value-in-FloatValue : goal.returns-in_ok-float_value-in-FloatValue
returns-in_ok-float_value-in-FloatValue g c =
    let lead = kind_led FloatValue (g.S.TokenSource.items c.args.source.now) _ (float_side _) c.in-Some.ensures.next (ap kind_number c.in-FloatValue.is) in
    let (x, takes, value) = c.in_ok-float_value-in-FloatValue.ensures in
    whole lead takes (float_made _ _ g.S.Names.Names.bytes _ ∙ ap float value)

pub returns-in_err-float_value-in-FloatValue : goal.returns-in_err-float_value-in-FloatValue
returns-in_err-float_value-in-FloatValue g c =
    let lead = kind_led FloatValue (g.S.TokenSource.items c.args.source.now) _ (float_side _) c.in-Some.ensures.next (ap kind_number c.in-FloatValue.is) in
    fails_last _ _ _ _ lead c.in_err-float_value-in-FloatValue.ensures c.from_residual-in_err-float_value-in-FloatValue.ensures.1

pub returns-in_ok-string_value-in-StringValue : goal.returns-in_ok-string_value-in-StringValue
returns-in_ok-string_value-in-StringValue g c =
    let lead = kind_led StringValue (g.S.TokenSource.items c.args.source.now) _ (string_side _) c.in-Some.ensures.next (ap kind_number c.in-StringValue.is) in
    let (x, takes, value) = c.in_ok-string_value-in-StringValue.ensures in
    whole lead takes (string_made _ _ g.S.Names.Names.bytes _ ∙ ap string value)

pub returns-in_err-string_value-in-StringValue : goal.returns-in_err-string_value-in-StringValue
returns-in_err-string_value-in-StringValue g c =
    let lead = kind_led StringValue (g.S.TokenSource.items c.args.source.now) _ (string_side _) c.in-Some.ensures.next (ap kind_number c.in-StringValue.is) in
    fails_last _ _ _ _ lead c.in_err-string_value-in-StringValue.ensures c.from_residual-in_err-string_value-in-StringValue.ensures.1

pub returns-in_ok-block_string_value-in-BlockString : goal.returns-in_ok-block_string_value-in-BlockString
returns-in_ok-block_string_value-in-BlockString g c =
    let lead = kind_led BlockString (g.S.TokenSource.items c.args.source.now) _ (block_side _) c.in-Some.ensures.next (ap kind_number c.in-BlockString.is) in
    let (x, takes, value) = c.in_ok-block_string_value-in-BlockString.ensures in
    whole lead takes (string_made _ _ g.S.Names.Names.bytes _ ∙ ap string value)

pub returns-in_err-block_string_value-in-BlockString : goal.returns-in_err-block_string_value-in-BlockString
returns-in_err-block_string_value-in-BlockString g c =
    let lead = kind_led BlockString (g.S.TokenSource.items c.args.source.now) _ (block_side _) c.in-Some.ensures.next (ap kind_number c.in-BlockString.is) in
    fails_last _ _ _ _ lead c.in_err-block_string_value-in-BlockString.ensures c.from_residual-in_err-block_string_value-in-BlockString.ensures.1
