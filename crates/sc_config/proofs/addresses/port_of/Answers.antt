use Rattle.std.proofs.Common.{◌≡◌, ◌<◌, true, length, sym, arith, rules}
use Rattle.std.specs.List.{list_all}
use Rattle.std.specs.Char.{is_ascii_digit}
use Rattle.std.proofs.lemmas.Bool.Decides.{nat_tests}
use Rattle.sc_config.proofs.AddressLaws.{past_port}
use Rattle.sc_config.proofs.addresses.port_of.Goals as goal

pub returns-in-Err : goal.returns-in-Err
returns-in-Err c =
    let digits : list_all is_ascii_digit c.args.text.now ≡ true = search (rules, c.are_digits.ensures, c.as_bytes-bytes.ensures.value, c.if-not-are_digits.false) in
    let some : 0 < length c.args.text.now = grind (arith, nat_tests, c.is_empty.ensures, c.as_bytes-bytes.ensures.value, c.if-is_empty.false) in
    sym (past_port c.args.text.now digits some c.in-Err.ensures.value.0)
