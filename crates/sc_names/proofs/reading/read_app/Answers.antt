use Rattle.sc_names.proofs.ReadingLaws.{app_parts, no_sign, no_first, no_second, both}
use Rattle.sc_names.proofs.reading.read_app.Goals as goal

pub returns-in_err-host : goal.returns-in_err-host
returns-in_err-host c = no_sign app_parts c.args.bytes.now c.from_residual.result c.from_residual.ensures c.in_err-host.ensures

pub returns-in_err-host-2 : goal.returns-in_err-host-2
returns-in_err-host-2 c = no_first app_parts c.args.bytes.now c.in_ok-host.host.now c.in_ok-host.serial.now c.from_residual-in_err-host-2.result c.from_residual-in_err-host-2.ensures c.in_ok-host.ensures c.in_err-host-2.ensures

pub returns-in_err-serial : goal.returns-in_err-serial
returns-in_err-serial c = no_second app_parts c.args.bytes.now c.in_ok-host.host.now c.in_ok-host.serial.now c.from_residual-in_err-serial.result c.from_residual-in_err-serial.ensures c.in_ok-host.ensures c.in_err-serial.ensures

pub returns : goal.returns
returns c = both app_parts c.args.bytes.now c.in_ok-host.host.now c.in_ok-host.serial.now c.in_ok-host-2.host c.in_ok-serial.serial c.in_ok-host.ensures c.in_ok-host-2.ensures c.in_ok-serial.ensures
