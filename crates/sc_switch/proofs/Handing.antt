-- A journal that is handed on: the steps of the whole epoch stay what they were, and so does all that is said of them.
use Rattle.std.proofs.Common.{◌≡◌, ℕ, ◌+◌, List, [], ◌∷◌, ◌++◌, length, min, refl, sym, ap, ◌∙◌, subst, arith, append_assoc, length-append}
use Rattle.std.proofs.lemmas.List.{append-nil}
use Rattle.sc_terms.specs.declared.steps.Step.{Step}
use Rattle.sc_journal.specs.Kept.{Kept}
use Rattle.sc_state.specs.declared.net.Net.{Net}
use Rattle.sc_state.specs.declared.session.Session.{Session}
use Rattle.sc_model.specs.JournalSizes.{journal_size}
use Rattle.sc_hosts.specs.Histories.{as_session}
use Rattle.sc_hosts.specs.Runs.{net_from as chained}
use Rattle.sc_switch.specs.Answers.{handing}
use Rattle.sc_switch.specs.Standing.{Known, net_of, steps_of, whole, IsSwitch}

steps-more : (before : List (Kept Step)) (next : Kept Step) → steps_of (before ++ next ∷ []) ≡ steps_of before ++ next.items
unfolding steps_of
steps-more [] next = append-nil next.items
steps-more (first ∷ before) next = ap (λ items. first.items ++ items) (steps-more before next) ∙ sym (append_assoc first.items (steps_of before) next.items)

whole-same : (old : Known) → whole (handing old) ≡ whole old
whole-same old = append-nil (whole old)

pub net_same : (old : Known) → net_of (handing old) ≡ net_of old
unfolding net_of
net_same old = ap (chained as_session old.setup old.epoch old.began) (whole-same old)

-- the view with this journal handed on too
pub handed_is : (old : Known) (journal fresh : Kept Step) (before after : List (Kept Step)) → journal.items ≡ old.journal → old.handed ≡ steps_of before → after ≡ before ++ journal ∷ [] → fresh.items ≡ []
    → ◌≡◌ {A = Known} (record old { handed = steps_of after; journal = fresh.items }) (handing old)
handed_is old journal fresh before after items handed more none =
    let all : steps_of after ≡ whole old = ap steps_of more ∙ steps-more before journal ∙ ap (λ (steps : List Step). steps ++ journal.items) (sym handed) ∙ ap (λ (steps : List Step). old.handed ++ steps) items in
    rw (all, none) refl

handing-is : (old : Known) (journal fresh : Kept Step) (before after : ℕ) (net : Net Session) (live waiting : ℕ) → IsSwitch old journal before net live waiting
    → fresh.items ≡ [] → fresh.used ≡ 0 → fresh.most_items ≡ old.setup.config.journal_steps → fresh.most_bytes ≡ old.setup.config.journal_bytes → after ≡ min (before + length journal.items) 18446744073709551615
    → IsSwitch (handing old) fresh after net live waiting
unfolding journal_size
handing-is old journal fresh before after net live waiting is items used most_items most_bytes after_is =
    let long = length-append old.handed old.journal in
    let same = ap length is.items_is in
    record {
      right = is.right;
      items_is = items;
      steps_is = most_items;
      bytes_is = most_bytes;
      within = rw items (omega arith);
      used_is = rw (items, used) refl;
      before_is = omega (arith, after_is, is.before_is, long, same);
      lawful = rw (whole-same old) is.lawful;
      net_is = rw (net_same old) is.net_is;
      sent_is = rw (whole-same old) is.sent_is;
      leases_are = rw (net_same old) is.leases_are;
    }

pub IsSwitch-handed : (old : Known) (journal fresh : Kept Step) (before after : ℕ) (net : Net Session) (live waiting : ℕ) (handed more : List (Kept Step)) → IsSwitch old journal before net live waiting → old.handed ≡ steps_of handed → more ≡ handed ++ journal ∷ []
    → fresh.items ≡ [] → fresh.used ≡ 0 → fresh.most_items ≡ old.setup.config.journal_steps → fresh.most_bytes ≡ old.setup.config.journal_bytes → after ≡ min (before + length journal.items) 18446744073709551615
    → IsSwitch (record old { handed = steps_of more; journal = fresh.items }) fresh after net live waiting
IsSwitch-handed old journal fresh before after net live waiting handed more is handed_as more_is items used most_items most_bytes after_is =
    subst (λ (k : Known). IsSwitch k fresh after net live waiting) (sym (handed_is old journal fresh handed more is.items_is handed_as more_is items))
    (handing-is old journal fresh before after net live waiting is items used most_items most_bytes after_is)
