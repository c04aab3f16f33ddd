-- What may be due in the hosts, host by host.
use Rattle.std.proofs.Common.{◌≡◌, ℕ, ◌+◌, ◌<◌, ◌≤◌, List, ◌++◌, length, drop, get_or, append_assoc, append-nil, refl}
use Rattle.std.proofs.lemmas.List.{drop_more}
use Rattle.std.proofs.Math.ListN.{drop_of_length-le}
use Rattle.sc_state.specs.Hosts.{Host}
use Rattle.sc_state.specs.declared.session.Session.{Session}
use Rattle.sc_hosts.specs.Ticks.{Dated}
use Rattle.sc_ticks.specs.Due.{host_due, hosts_due}

pub due_next : (past : ℕ) (out : List Dated) (number : ℕ) (hosts : List (Host Session)) (i : ℕ) (d : Host Session) → i < length hosts
    → (out ++ host_due past number (get_or hosts i d)) ++ hosts_due past (number + 1) (drop (i + 1) hosts) ≡ out ++ hosts_due past number (drop i hosts)
unfolding hosts_due
due_next past out number hosts i d below = rw (drop_more hosts i d below, append_assoc) refl

pub due_end : (past : ℕ) (out : List Dated) (number : ℕ) (hosts : List (Host Session)) (i : ℕ) → length hosts ≤ i → out ++ hosts_due past number (drop i hosts) ≡ out
unfolding hosts_due
due_end past out number hosts i over = rw (drop_of_length-le hosts over, append-nil) refl
