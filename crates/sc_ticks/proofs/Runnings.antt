-- Whether an entry is among those of a session, part by part.
use Rattle.std.proofs.Common.{◌≡◌, ℕ, Bool, ◌||◌, List, [], ◌∷◌, refl, ap, ◌∙◌}
use Rattle.std.specs.List.{list_any, flat_map}
use Rattle.std.proofs.lemmas.List.Folds.{list_any-append}
use Rattle.sc_terms.specs.declared.views.TimerView.{TimerView}
use Rattle.sc_parts.specs.declared.timers.TimerName.{TimerName}
use Rattle.sc_state.specs.declared.proxy.Proxy.{Proxy}
use Rattle.sc_state.specs.declared.session.Session.{Session}
use Rattle.sc_hosts.specs.Sessions.{SessionEntry, expiry_entry, timer_entry, branch_entry, entries_of}
use Rattle.sc_ticks.specs.Running.{is_entry}

of-each : {A B : Type 0} (p : B → Bool) (f : A → List B) (xs : List A) → list_any p (flat_map f xs) ≡ list_any (λ x. list_any p (f x)) xs
of-each p f [] = refl
of-each p f (x ∷ xs) = list_any-append p (f x) (flat_map f xs) ∙ ap (λ b. list_any p (f x) || b) (of-each p f xs)

of-timers : (p : SessionEntry → Bool) (timers : List TimerView) → list_any p (flat_map (λ timer. timer_entry timer ∷ []) timers) ≡ list_any (λ timer. p (timer_entry timer)) timers
of-timers p [] = refl
of-timers p (timer ∷ timers) = ap (λ b. p (timer_entry timer) || b) (of-timers p timers)

of-proxies : (p : SessionEntry → Bool) (proxies : List Proxy) → list_any p (flat_map (λ proxy. flat_map branch_entry proxy.branches) proxies)
    ≡ list_any (λ proxy. list_any (λ branch. list_any p (branch_entry branch)) proxy.branches) proxies
of-proxies p [] = refl
of-proxies p (proxy ∷ proxies) =
    list_any-append p (flat_map branch_entry proxy.branches) (flat_map (λ proxy. flat_map branch_entry proxy.branches) proxies)
    ∙ rw (of-each p branch_entry proxy.branches, of-proxies p proxies) refl

pub any_entry : (due : ℕ) (name : TimerName) (session : Session) → list_any (is_entry due name) (entries_of session)
    ≡ ((list_any (is_entry due name) (expiry_entry session.view.expires) || list_any (λ timer. is_entry due name (timer_entry timer)) session.view.timers)
    || list_any (λ proxy. list_any (λ branch. list_any (is_entry due name) (branch_entry branch)) proxy.branches) session.known.proxies)
unfolding entries_of
any_entry due name session = rw (list_any-append, list_any-append, of-timers, of-proxies) refl
