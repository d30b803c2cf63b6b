-- Why a run fails.
use Rattle.std.specs.Prelude.{None, Option, Some}
use Rattle.fb_wire.specs.{declared.end.RunEnd.{RunEnd}, declared.run_error.RunError.{RunError}}
use Rattle.fb_wire.specs.declared.end.RunEnd.TheVariants as end
use Rattle.fb_wire.specs.declared.run_error.RunError.TheVariants as fault

-- each end except that of the input has its own fault
abbrev pub error_of : RunEnd → Option RunError
error_of end.End = None
error_of end.LineTooLong = Some fault.LineTooLong
error_of end.ReadFailed = Some fault.ReadFailed
error_of end.WriteFailed = Some fault.WriteFailed
error_of end.TurnsOver = Some fault.TurnsOver
error_of end.Memory = Some fault.Memory
