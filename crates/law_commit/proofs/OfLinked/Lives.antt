-- In a life a search that loads an eighth word with no link meets an empty chain.
use Rattle.std.proofs.Common.{◌≡◌, ℕ, ◌+◌, ◌∙◌, List, refl, sym, ap, subst}
use Rattle.fkv_plane.specs.Asked.{reply_to, word_at}
use Rattle.fkv_plane.proofs.Shown.{passed_reply}
use Rattle.fkv_index.specs.declared.finding.FindStep.{FindStep}
use Rattle.fkv_index.specs.declared.finding.FindStep.TheVariants.{LoadsLink}
use Rattle.fkv_index.specs.declared.finding.Finding.{Finding}
use Rattle.fkv_index.specs.Buckets.{bucket_words}
use Rattle.fkv_index.specs.Entries.{entry_of}
use Rattle.fkv_index.specs.Finding.{find_ask, find_step_ask}
use Rattle.fkv_index.specs.IndexWorld.{IndexWorld}
use Rattle.fkv_index.specs.Slots.{entry_addr, link_of}
use Rattle.fkv_index.proofs.Shown.{IsSound, SeekKnows, WorkKnows}
use Rattle.law_refine.specs.Below.fkv_session.Told.TheVariants.{Slept}
use Rattle.law_refine.specs.Below.fkv_session.Sessions.{session_ask}
use Rattle.law_refine.specs.Below.fkv_world.Runs.{World, run}
use Rattle.law_refine.specs.Below.fkv_world.World.{Event, Now, seat_at}
use Rattle.law_log.specs.Ghosts.{Ghosts}
use Rattle.law_refine.specs.Index.Finders.{SessionWork, Searches}
use Rattle.law_refine.specs.Index.LifeEntries.{lists_seen}
use Rattle.law_refine.specs.Index.Shows.{IsWork, seen_by_index}
use Rattle.law_refine.proofs.OfIndex.LifeFacts.{life_asks, life_sound}
use Rattle.law_refine.proofs.OfIndex.Permitted.{are_permitted}
use Rattle.law_refine.specs.Events.GhostEvents.{life_ghosts}
use Rattle.law_refine.specs.Heads.Heads.{head_at}
use Rattle.law_commit.specs.Linked.{MeetEmpty}
use Rattle.law_commit.proofs.OfCopied.Leads.{HasHeads, entry_led, leads_then, shows_then}
use Rattle.law_commit.proofs.OfLinked.Unlinked.{no_entry}

-- the word that is loaded there
link_asked : (words : List ℕ) (f : Finding) → f.step ≡ LoadsLink → reply_to words (find_ask f) ≡ word_at words (f.base + 7)
unfolding find_step_ask
link_asked words f at = ap (λ (step : FindStep). reply_to words (find_step_ask f step)) at

pub life_meets : (opening : World) (start : ℕ) (lists : ℕ → List ℕ) (ghosts : Ghosts) (events : List Event) → HasHeads opening start lists ghosts → MeetEmpty (run opening events).now (life_ghosts opening ghosts events).log
life_meets opening start lists ghosts events has number s its got searches at nowhere =
    let n : Now = (run opening events).now in
    let w : IndexWorld = seen_by_index opening lists events in
    let shows = shows_then opening start lists ghosts events has in
    let sound : IsSound w = life_sound opening lists events has.in_order in
    let actor = shows.actors number s got in
    let work : IsWork (Searches its) actor.actor = subst (λ (x : SessionWork). IsWork x actor.actor) searches actor.its.work in
    let asks = (life_asks opening lists events has.in_order (are_permitted opening lists events has.in_order) number s got).searches its searches in
    let loaded : reply_to n.words (session_ask (seat_at n number) s) ≡ word_at n.words (its.finding.base + 7) =
    ap (reply_to n.words) asks ∙ passed_reply n.words (find_ask its.finding) Slept ∙ link_asked n.words its.finding at in
    let here : actor.actor.finding.step ≡ LoadsLink = ap (λ (f : Finding). f.step) work.1 ∙ at in
    let link : link_of (word_at w.now.words (actor.actor.finding.base + 7)) ≡ 0 = rw (shows.words, work.1) (sym (ap link_of loaded) ∙ nowhere) in
    let none : entry_of w actor.actor.finding.home ≡ 0 = no_entry w number actor.actor sound actor.got work.0 here link in
    let row : SeekKnows w.now.places (bucket_words w.now.places w.now.words) w.lists actor.actor.finding LoadsLink =
    subst (λ (step : FindStep). SeekKnows w.now.places (bucket_words w.now.places w.now.words) w.lists actor.actor.finding step) here
    (subst (WorkKnows w.now.places (bucket_words w.now.places w.now.words) w.lists actor.actor.finding) work.0 (sound.rows number actor.actor actor.got)) in
    let led = entry_led n (lists_seen opening lists events) (life_ghosts opening ghosts events).log w actor.actor.finding.home shows refl (leads_then opening start lists ghosts events has) row.its_home in
    subst (λ (f : Finding). head_at (life_ghosts opening ghosts events).log f.home ≡ 0) work.1 (sym led ∙ ap entry_addr none)
