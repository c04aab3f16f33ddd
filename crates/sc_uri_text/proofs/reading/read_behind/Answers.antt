use Rattle.std.proofs.Common.{Ok, ◌∙◌, ◌+◌, length, sym, ap}
use Rattle.std.specs.Option.{option_copied}
use Rattle.sc_syntax.proofs.PartLaws.{sent_spelled, params_spelled, headers_are}
use Rattle.sc_uri_text.proofs.ReadingSteps.{AreParts, sent_fault, params_fault, headers_fault, all_read, user_of_text}
use Rattle.sc_uri_text.proofs.reading.read_behind.Goals as goal

pub returns-in-Err : goal.returns-in-Err
returns-in-Err c =
    let parts : AreParts c.args.text.now c.cut.result.0.now c.cut-2.result.0.now (option_copied c.cut-2.result.1) (option_copied c.cut.result.1) =
    record { front_is = c.cut.ensures.front; headers_is = c.cut.ensures.rest; sent_is = c.cut-2.ensures.front; params_is = c.cut-2.ensures.rest } in
    sent_fault c.args.at (option_copied c.args.user) c.args.text.now c.cut.result.0.now c.cut-2.result.0.now (option_copied c.cut-2.result.1) (option_copied c.cut.result.1) parts c.in-Err.refused c.in-Err.ensures

pub returns-in-Err-read_params : goal.returns-in-Err-read_params
returns-in-Err-read_params c =
    let parts : AreParts c.args.text.now c.cut.result.0.now c.cut-2.result.0.now (option_copied c.cut-2.result.1) (option_copied c.cut.result.1) =
    record { front_is = c.cut.ensures.front; headers_is = c.cut.ensures.rest; sent_is = c.cut-2.ensures.front; params_is = c.cut-2.ensures.rest } in
    params_fault c.args.at (option_copied c.args.user) c.args.text.now c.cut.result.0.now c.cut-2.result.0.now (option_copied c.cut-2.result.1) (option_copied c.cut.result.1) parts
    c.in-Ok.sent.0.now c.in-Ok.sent.1 c.in-Err-read_params.refused c.in-Ok.ensures c.in-Err-read_params.ensures

pub returns-in-Err-judge_headers : goal.returns-in-Err-judge_headers
returns-in-Err-judge_headers c =
    let parts : AreParts c.args.text.now c.cut.result.0.now c.cut-2.result.0.now (option_copied c.cut-2.result.1) (option_copied c.cut.result.1) =
    record { front_is = c.cut.ensures.front; headers_is = c.cut.ensures.rest; sent_is = c.cut-2.ensures.front; params_is = c.cut-2.ensures.rest } in
    headers_fault c.args.at (option_copied c.args.user) c.args.text.now c.cut.result.0.now c.cut-2.result.0.now (option_copied c.cut-2.result.1) (option_copied c.cut.result.1) parts
    c.in-Ok.sent.0.now c.in-Ok.sent.1 c.in-Ok-read_params.params c.in-Err-judge_headers.refused c.in-Ok.ensures c.in-Ok-read_params.ensures c.in-Err-judge_headers.ensures

pub returns : goal.returns
returns c =
    let parts : AreParts c.args.text.now c.cut.result.0.now c.cut-2.result.0.now (option_copied c.cut-2.result.1) (option_copied c.cut.result.1) =
    record { front_is = c.cut.ensures.front; headers_is = c.cut.ensures.rest; sent_is = c.cut-2.ensures.front; params_is = c.cut-2.ensures.rest } in
    all_read c.args.at (option_copied c.args.user) c.args.text.now c.cut.result.0.now c.cut-2.result.0.now (option_copied c.cut-2.result.1) (option_copied c.cut.result.1) parts
    c.in-Ok.sent.0.now c.in-Ok.sent.1 c.in-Ok-read_params.params (option_copied c.cut.result.1) c.in-Ok.ensures c.in-Ok-read_params.ensures c.in-Ok-judge_headers.ensures
    ∙ ap Ok (sym c.in_ok-uri.ensures)

pub build-requires-clause-user : goal.build-requires-clause-user
build-requires-clause-user c = user_of_text (option_copied c.args.user) c.args.text.now (option_copied c.cut.result.1) c.requires.user c.cut.ensures.rest

pub build-requires-clause-host : goal.build-requires-clause-host
build-requires-clause-host c = (sent_spelled c.args.at c.cut-2.result.0.now (c.in-Ok.sent.0.now, c.in-Ok.sent.1) c.in-Ok.ensures).0

pub build-requires-clause-params : goal.build-requires-clause-params
build-requires-clause-params c = (params_spelled (c.args.at + length c.cut-2.result.0.now + 1) (option_copied c.cut-2.result.1) c.in-Ok-read_params.params c.in-Ok-read_params.ensures).1

pub build-requires-clause-headers : goal.build-requires-clause-headers
build-requires-clause-headers c = (headers_are (c.args.at + length c.cut.result.0.now + 1) (option_copied c.cut.result.1) (option_copied c.cut.result.1) c.in-Ok-judge_headers.ensures).0
