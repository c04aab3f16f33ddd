-- Intervals of session timers as the code has them (RFC 4028).
use Rattle.std.specs.Prelude.{◌≤◌}
use Rattle.sc_refreshes.specs.declared.intervals.Interval.{Interval}
use Rattle.sc_refreshes.specs.declared.intervals.Interval.TheVariants as intervals
use Rattle.sc_hosts.specs.SessionTimers.{Granted, Off, On, Too_small}

-- what is granted, as the definitions have it
unfoldable pub granted_of : Interval → Granted
granted_of intervals.Off = Off
granted_of intervals.TooSmall = Too_small
granted_of (intervals.On seconds me) = On seconds me

-- a timer can run for so many seconds
unfoldable pub IsGrantable : Interval → Type 0
IsGrantable intervals.Off = Unit {0}
IsGrantable intervals.TooSmall = Unit {0}
IsGrantable (intervals.On seconds me) = seconds ≤ 4000000
