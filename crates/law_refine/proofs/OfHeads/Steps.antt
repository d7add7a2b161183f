-- How the log's events of a step move where the chains begin.
use Rattle.std.proofs.Common.{◌≡◌, ◌⊎◌, inl, inr, ℕ, ◌^◌, ◌<◌, ◌∙◌, refl, sym, ap, subst, List, [], ◌∷◌, ◌++◌}
use Rattle.std.specs.Prelude.{⊤}
use Rattle.fkv_epoch.proofs.Shown.{same_or}
use Rattle.fkv_map.specs.declared.history.HistoryEntry.{HistoryEntry}
use Rattle.fkv_plane.specs.declared.places.Places.{Places}
use Rattle.fkv_index.specs.declared.homes.Home.{Home}
use Rattle.fkv_index.specs.Entries.{NewEntry, IsPublished}
use Rattle.fkv_index.specs.IndexWorld.{new_entry}
use Rattle.fkv_index.specs.OneEntry.{IsHome}
use Rattle.fkv_index.specs.Slots.{entry_addr}
use Rattle.law_log.specs.Chains.{Cell, Logged, Reserved, Published, head_of}
use Rattle.law_log.specs.Ghosts.{Log, Ghosts, GhostEvent, Publishes, Drops, Changes, set_at, published, dropped, changed, log_after, ghosts_after, ghost_run}
use Rattle.law_log.proofs.Shown.{run_on, set_there, set_else}
use Rattle.law_refine.specs.Events.GhostEvents.{home_number}
use Rattle.law_refine.specs.Heads.Heads.{entry_to, head_at, IsAtHead, meets_head, AllMeetHeads}
use Rattle.law_refine.proofs.OfHeads.Entries.{IsTagged, entry_some, leads_addr, same_home}

-- ---- these events leave all chains
abbrev pub leaves_chains : GhostEvent → Type 0
leaves_chains (Publishes a) = ⊥
leaves_chains event = ⊤

abbrev pub LeaveChains : List GhostEvent → Type 0
LeaveChains [] = ⊤
LeaveChains (event ∷ before) = leaves_chains event × LeaveChains before

dropped_chains : (log : Log) (a : ℕ) (logged : Logged) → (dropped log a logged).chains ≡ log.chains
dropped_chains log a (Reserved entry cell) = refl
dropped_chains log a logged = refl

changed_chains : (log : Log) (a : ℕ) (entry : HistoryEntry) (logged : Logged) → (changed log a entry logged).chains ≡ log.chains
changed_chains log a entry (Published cell) = refl
changed_chains log a entry logged = refl

event_chains : (home : ℕ → ℕ) (log : Log) (event : GhostEvent) → leaves_chains event → (log_after home log event).chains ≡ log.chains
event_chains home log (Publishes a) leaves = absurd leaves
event_chains home log (Drops a) leaves = dropped_chains log a (log.cells a)
event_chains home log (Changes a entry) leaves = changed_chains log a entry (log.cells a)
event_chains home log event leaves = refl

event_meets : (home : ℕ → ℕ) (log : Log) (event : GhostEvent) → leaves_chains event → meets_head home log event
event_meets home log (Publishes a) leaves = absurd leaves
event_meets home log event leaves = tt

-- ---- behind a step's events these entries lead to the heads, and the records that they publish were published there
abbrev pub LeadTo : Places → (Home → ℕ) → Log → Type 0
LeadTo p entry log = (its_home : Home) → IsHome p its_home → entry its_home ≡ entry_to (head_at log its_home) its_home.tag

pub record Stepped (home : ℕ → ℕ) (g : Ghosts) (events : List GhostEvent) (p : Places) (after : Home → ℕ) : Type 0 where
  pub leads : LeadTo p after (ghost_run home g events).log
  pub meets : AllMeetHeads home g events

-- other chains lead where the same ones do
same_chains : (p : Places) (entry : Home → ℕ) (log after : Log) → after.chains ≡ log.chains → LeadTo p entry log → LeadTo p entry after
same_chains p entry log after same leads = λ its_home there. leads its_home there ∙ ap (λ (chains : ℕ → List ℕ). entry_to (head_of (chains (home_number its_home))) its_home.tag) (sym same)

pub nothing_stepped : (home : ℕ → ℕ) (g : Ghosts) (p : Places) (entry after : Home → ℕ) → ((its_home : Home) → IsHome p its_home → after its_home ≡ entry its_home) → LeadTo p entry g.log → Stepped home g [] p after
unfolding ghost_run AllMeetHeads
nothing_stepped home g p entry after kept leads = record { leads = λ its_home there. kept its_home there ∙ leads its_home there; meets = tt }

pub one_behind : (home : ℕ → ℕ) (g : Ghosts) (event : GhostEvent) (events : List GhostEvent) (p : Places) (after : Home → ℕ) → leaves_chains event → Stepped home g events p after → Stepped home g (event ∷ events) p after
unfolding ghost_run ghosts_after AllMeetHeads
one_behind home g event events p after leaves s = record {
  leads = same_chains p after (ghost_run home g events).log (log_after home (ghost_run home g events).log event) (event_chains home (ghost_run home g events).log event leaves) s.leads;
  meets = (event_meets home (ghost_run home g events).log event leaves, s.meets);
}

pub quietly_stepped : (home : ℕ → ℕ) (g : Ghosts) (events : List GhostEvent) (p : Places) (entry after : Home → ℕ) → LeaveChains events → ((its_home : Home) → IsHome p its_home → after its_home ≡ entry its_home) → LeadTo p entry g.log
    → Stepped home g events p after
quietly_stepped home g [] p entry after leave kept leads = nothing_stepped home g p entry after kept leads
quietly_stepped home g (event ∷ events) p entry after leave kept leads = one_behind home g event events p after leave.0 (quietly_stepped home g events p entry after leave.1 kept leads)

-- ---- a record is published for a home's new entry, and leads to where the one before led
pub record IsPublishing (home : ℕ → ℕ) (log : Log) (p : Places) (a : ℕ) (its : NewEntry) : Type 0 where
  pub entry : HistoryEntry
  pub cell : Cell
  pub reserved : log.cells a ≡ Reserved entry cell
  pub of_home : home cell.key ≡ home_number its.home
  pub there : IsHome p its.home
  pub previous : entry_addr its.before ≡ cell.previous
  pub some : 0 < a
  pub its_entry : its.entry ≡ new_entry a its.home.tag

published_chains : (home : ℕ → ℕ) (log : Log) (p : Places) (a : ℕ) (its : NewEntry) → IsPublishing home log p a its
    → (published home log a (log.cells a)).chains ≡ set_at log.chains (home_number its.home) (a ∷ log.chains (home_number its.home))
published_chains home log p a its is =
    ap (λ (x : Logged). (published home log a x).chains) is.reserved ∙ ap (λ (h : ℕ). set_at log.chains h (a ∷ log.chains h)) is.of_home

-- at its home the chain begins with it, and at all others as it did
heads_set : (log : Log) (a : ℕ) (one other : Home) → one.tag < 2 ^ 15 → other.tag < 2 ^ 15
    → ((other ≡ one) × (head_of (set_at log.chains (home_number one) (a ∷ log.chains (home_number one)) (home_number other)) ≡ a))
    ⊎ ((other ≡ one → ⊥) × (head_of (set_at log.chains (home_number one) (a ∷ log.chains (home_number one)) (home_number other)) ≡ head_at log other))
heads_set log a one other fits small = elim (same_or (home_number other) (home_number one)) [
  | inl same ↦ inl (same_home other one small fits same, ap head_of (ap (λ (h : ℕ). set_at log.chains (home_number one) (a ∷ log.chains (home_number one)) h) same ∙ set_there log.chains (home_number one) (a ∷ log.chains (home_number one))))
  | inr differs ↦ inr (λ same. differs (ap (λ (h : Home). home_number h) same), ap head_of (set_else log.chains (home_number one) (a ∷ log.chains (home_number one)) (home_number other) differs))
]

publish_leads : (home : ℕ → ℕ) (log : Log) (p : Places) (a : ℕ) (its : NewEntry) (entry after : Home → ℕ) → IsPublishing home log p a its → IsPublished its entry after p → LeadTo p entry log
    → LeadTo p after (published home log a (log.cells a))
publish_leads home log p a its entry after is moves leads = λ its_home there.
    let chains = published_chains home log p a its is in
    let led : (head : ℕ) → head_of (set_at log.chains (home_number its.home) (a ∷ log.chains (home_number its.home)) (home_number its_home)) ≡ head
    → entry_to head its_home.tag ≡ entry_to (head_at (published home log a (log.cells a)) its_home) its_home.tag = λ head e.
    ap (λ (b : ℕ). entry_to b its_home.tag) (sym e ∙ ap (λ (c : ℕ → List ℕ). head_of (c (home_number its_home))) (sym chains)) in
    elim (heads_set log a its.home its_home is.there.fits there.fits) [
      | inl here ↦ ap after here.0 ∙ moves.has ∙ is.its_entry ∙ ap (λ (h : Home). new_entry a h.tag) (sym here.0) ∙ sym (entry_some a its_home.tag is.some) ∙ led a here.1
      | inr else ↦ moves.others its_home there else.0 ∙ leads its_home there ∙ led (head_at log its_home) else.1
    ]

-- where it is published the chain begins with what it leads to
publish_meets : (home : ℕ → ℕ) (log : Log) (p : Places) (a : ℕ) (its : NewEntry) (entry after : Home → ℕ) → IsPublishing home log p a its → IsPublished its entry after p → IsTagged its.home.tag (entry its.home) → LeadTo p entry log
    → IsAtHead home log (log.cells a)
publish_meets home log p a its entry after is moves tagged leads =
    let its_head : entry_addr (entry its.home) ≡ head_at log its.home = leads_addr (head_at log its.home) its.home.tag (entry its.home) (leads its.home is.there) tagged in
    subst (IsAtHead home log) (sym is.reserved) (ap (λ (h : ℕ). head_of (log.chains h)) is.of_home ∙ sym its_head ∙ ap entry_addr moves.had ∙ is.previous)

pub publish_stepped : (home : ℕ → ℕ) (g : Ghosts) (p : Places) (a : ℕ) (its : NewEntry) (entry after : Home → ℕ) → IsPublishing home g.log p a its → IsPublished its entry after p → IsTagged its.home.tag (entry its.home) → LeadTo p entry g.log
    → Stepped home g (Publishes a ∷ []) p after
unfolding ghost_run ghosts_after AllMeetHeads
publish_stepped home g p a its entry after is moves tagged leads = record {
  leads = publish_leads home g.log p a its entry after is moves leads;
  meets = (publish_meets home g.log p a its entry after is moves tagged leads, tt);
}

-- ---- and all of them behind others
pub meets_on : (home : ℕ → ℕ) (g : Ghosts) (later before : List GhostEvent) → AllMeetHeads home (ghost_run home g before) later → AllMeetHeads home g before → AllMeetHeads home g (later ++ before)
unfolding AllMeetHeads
meets_on home g [] before one other = other
meets_on home g (event ∷ later) before one other = (subst (λ (x : Ghosts). meets_head home x.log event) (sym (run_on home g later before)) one.0, meets_on home g later before one.1 other)
