use Rattle.std.proofs.Common.{◌∙◌, sym}
use Rattle.std.proofs.lemmas.Result.{IfOk-weaker}
use Rattle.celt_cli.proofs.Finding.{no_words, names_decode, names_encode, names_ranges, names_gen, names_none}
use Rattle.celt_cli.proofs.words.command_in.Goals as goal

pub returns-in_default-clause-value : goal.returns-in_default-clause-value
returns-in_default-clause-value c = no_words c.args.words.now c.in_default.ensures.cases

pub returns-in-decode-clause-value : goal.returns-in-decode-clause-value
returns-in-decode-clause-value c =
    IfOk-weaker c.decode_command.result _ _ (λ command e. e ∙ sym (names_decode c.args.words.now c.in-Some.name.now c.in-Some.options.now c.as_str.result.now c.in-Some.ensures.cases.0 c.as_str.ensures.value c.in-decode.is)) c.decode_command.ensures

pub returns-in-encode-clause-value : goal.returns-in-encode-clause-value
returns-in-encode-clause-value c =
    IfOk-weaker c.encode_command.result _ _ (λ command e. e ∙ sym (names_encode c.args.words.now c.in-Some.name.now c.in-Some.options.now c.as_str.result.now c.in-Some.ensures.cases.0 c.as_str.ensures.value c.in-encode.is)) c.encode_command.ensures.value

pub returns-in-ranges-clause-value : goal.returns-in-ranges-clause-value
returns-in-ranges-clause-value c =
    IfOk-weaker c.ranges_command.result _ _ (λ command e. e ∙ sym (names_ranges c.args.words.now c.in-Some.name.now c.in-Some.options.now c.as_str.result.now c.in-Some.ensures.cases.0 c.as_str.ensures.value c.in-ranges.is)) c.ranges_command.ensures

pub returns-in-gen-clause-value : goal.returns-in-gen-clause-value
returns-in-gen-clause-value c =
    IfOk-weaker c.gen_command.result _ _ (λ command e. e ∙ sym (names_gen c.args.words.now c.in-Some.name.now c.in-Some.options.now c.as_str.result.now c.in-Some.ensures.cases.0 c.as_str.ensures.value c.in-gen.is)) c.gen_command.ensures.value

pub returns-in_default-as_str-clause-value : goal.returns-in_default-as_str-clause-value
returns-in_default-as_str-clause-value c =
    names_none c.args.words.now c.in-Some.name.now c.in-Some.options.now c.as_str.result.now c.in-Some.ensures.cases.0 c.as_str.ensures.value
    c.in_default-as_str.not-decode c.in_default-as_str.not-encode c.in_default-as_str.not-ranges c.in_default-as_str.not-gen
