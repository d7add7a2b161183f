-- What a sweep by the words of a life is replied shows the log beside it, as it is then.
use Rattle.std.proofs.Common.{◌≡◌, ℕ, ◌<◌, ◌≤◌, ◌∙◌, inl, sym, ap, subst, arith, List, [], ◌∷◌}
use Rattle.fkv_base.specs.declared.numbers.Key.{Key}
use Rattle.fkv_plane.specs.declared.places.Places.{Places}
use Rattle.fkv_plane.specs.declared.places.RecordWord.{RecordWord}
use Rattle.fkv_plane.specs.declared.places.RecordWord.TheVariants as rec
use Rattle.fkv_plane.specs.Asked.{reply_to, word_at}
use Rattle.fkv_plane.specs.Places.{record_place}
use Rattle.fkv_plane.proofs.Shown.{passed_reply}
use Rattle.fkv_index.specs.declared.finding.Found.{Found}
use Rattle.fkv_index.specs.declared.finding.Found.TheVariants.{Slot}
use Rattle.fkv_index.specs.declared.homes.Home.{Home}
use Rattle.fkv_index.specs.Finding.{find_ask, find_next_ask}
use Rattle.fkv_index.specs.Slots.{entry_addr, home_of}
use Rattle.fkv_sweep.specs.declared.sweeping.SweepAnswer.TheVariants as answer
use Rattle.fkv_sweep.specs.declared.sweeping.Sweeping.{Sweeping}
use Rattle.fkv_sweep.specs.declared.sweeping.Sweeping.TheVariants.{Finds, LoadsKey, LoadsHeader}
use Rattle.fkv_sweep.specs.SweptLogs as swept
use Rattle.fkv_sweep.specs.SweptLogs.{HasKeyAt, IsInChain, ShowsEntry, ShowsReply}
use Rattle.fkv_sweep.specs.Sweeping.{Sweeper, previous_in, sweeping_ask, sweep_ask, sweep_next}
use Rattle.fkv_sweep.proofs.Shown.{IsSweepSound, sweep_next_sound}
use Rattle.law_commit.specs.Below.fkv_flush.GuardLevels.{levels_of}
use Rattle.law_commit.specs.Below.fkv_world.Runs.{run}
use Rattle.law_commit.specs.Below.fkv_world.World.{Event, Now}
use Rattle.law_commit.specs.Below.law_refine.Events.GhostEvents.{home_number, life_ghosts, mapped}
use Rattle.law_commit.specs.Below.law_refine.Heads.Heads.{head_at}
use Rattle.law_commit.specs.Below.law_refine.Heads.Searches.{IsHeadAnswered, IsHeadFound}
use Rattle.law_commit.specs.Below.law_refine.Records.Changes.{AreChangesPublished}
use Rattle.law_commit.proofs.Below.fkv_world.Shown.{places_stay}
use Rattle.law_commit.proofs.Below.law_refine.OfHeads.LifeReaders.{life_read_head}
use Rattle.law_log.specs.Chains.{head_of}
use Rattle.law_log.specs.Enabled.{AreEnabled}
use Rattle.law_log.specs.Ghosts.{Log}
use Rattle.law_order.specs.Known.Begins.{BegunLife, home_of_world}
use Rattle.law_order.specs.Swept.Logs.{swept_log}
use Rattle.law_order.specs.Swept.Sweeps.{SweepsStore}
use Rattle.law_order.proofs.OfSwept.Knows.{HasHead, SearchesFor, StepKnowsWords, KnowsWords}
use Rattle.law_order.proofs.OfSwept.Memory.{closed_below_head, header_shown, key_shown}

-- an address above 0 at which a chain begins stands in it
head_in : (a : ℕ) (chain : List ℕ) → a ≡ head_of chain → 0 < a → swept.IsIn a chain
head_in a [] is some = absurd (omega (arith, is, some))
head_in a (b ∷ older) is some = inl (sym is)

-- behind these events of a life
module _ (life : BegunLife) (events : List Event) (s : Sweeper) (sweeps : SweepsStore life.opening s) where
  abbrev n : Now
  n = (run life.opening events).now

  abbrev log : Log
  log = (life_ghosts life.opening life.ghosts events).log

  its_places : s.places ≡ n.places
  its_places = sweeps.places ∙ sym (places_stay life.opening events)

  -- ---- the index: an entry that its search comes to leads to where the chain of its home begins
  found_in : (key : Key) (found : Found) (place entry : ℕ) → s.finding.home ≡ home_of life.opening.now.shape.bucket_bits key → IsHeadFound (head_at log s.finding.home) found → found ≡ Slot place entry → s.to.0 ≤ entry_addr entry
      → IsInChain s.shape.bucket_bits (swept_log log) key (entry_addr entry)
  found_in key found place entry home head is over =
      let to = sweeps.its_end in
      let found_head : entry_addr entry ≡ head_at log s.finding.home = subst (IsHeadFound (head_at log s.finding.home)) is head in
      let in_chain : swept.IsIn (entry_addr entry) (log.chains (home_number s.finding.home)) = head_in (entry_addr entry) (log.chains (home_number s.finding.home)) found_head (omega (arith, to, over)) in
      subst (λ (h : Home). swept.IsIn (entry_addr entry) (log.chains (home_number h))) (home ∙ sym (ap (λ (bits : ℕ). home_of bits key) sweeps.buckets)) in_chain

  pub entry_shown : (key : Key) → SearchesFor life.opening life.lists events s key → ShowsEntry (swept_log log) s key (reply_to n.words (find_ask s.finding))
  entry_shown key searches = λ its place entry ends is over.
      let begins = life.begins in
      let answered : IsHeadAnswered (head_at log s.finding.home) (find_next_ask n.places s.finding (reply_to n.words (find_ask s.finding))) =
      life_read_head life.opening life.start life.lists life.ghosts events s.finding begins.store.now begins.index begins.unborn begins.reserves begins.heads searches.reads in
      let here : IsHeadAnswered (head_at log s.finding.home) (find_next_ask s.places s.finding (reply_to n.words (find_ask s.finding))) =
      subst (λ (p : Places). IsHeadAnswered (head_at log s.finding.home) (find_next_ask p s.finding (reply_to n.words (find_ask s.finding)))) (sym its_places) answered in
      found_in key its.found place entry searches.its_home (subst (IsHeadAnswered (head_at log s.finding.home)) ends here) is over

  -- ---- memory: no frame from its head up is used again
  module _ (enabled : AreEnabled (home_of_world life.opening) life.ghosts (mapped life.opening events)) (published : AreChangesPublished life.opening life.ghosts events) where
    abbrev word_of : ℕ → RecordWord → ℕ
    word_of a part = word_at n.words (record_place s.places a part)

    closed_below : (a : ℕ) → HasHead life.opening events s → s.head.0 ≤ a → (levels_of n.words).closed ≤ a
    closed_below a has over = let closed = closed_below_head life.opening life.start events life.begins.store.now in omega (arith, closed, has, over)

    in_its_chain : (key : Key) (a : ℕ) → IsInChain s.shape.bucket_bits (swept_log log) key a → IsInChain life.opening.now.shape.bucket_bits (swept_log log) key a
    in_its_chain key a is_in = subst (λ (bits : ℕ). IsInChain bits (swept_log log) key a) sweeps.buckets is_in

    pub its_key_shown : (key : Key) (a : ℕ) → HasHead life.opening events s → s.head.0 ≤ a → IsInChain s.shape.bucket_bits (swept_log log) key a → word_of a rec.Key ≡ key.0 → HasKeyAt (swept_log log) key a
    its_key_shown key a has over is_in same =
        key_shown life events enabled published key a (closed_below a has over) (in_its_chain key a is_in) (subst (λ (p : Places). word_at n.words (record_place p a rec.Key) ≡ key.0) its_places same)

    pub its_header_shown : (key : Key) (a : ℕ) → HasHead life.opening events s → s.head.0 ≤ a → IsInChain s.shape.bucket_bits (swept_log log) key a → s.to.0 ≤ previous_in (word_of a rec.Header)
        → IsInChain s.shape.bucket_bits (swept_log log) key (previous_in (word_of a rec.Header))
    its_header_shown key a has over is_in above =
        let to = sweeps.its_end in
        let some : 0 < previous_in (word_of a rec.Header) = omega (arith, to, above) in
        subst (λ (bits : ℕ). IsInChain bits (swept_log log) key (previous_in (word_of a rec.Header))) (sym sweeps.buckets)
        (subst (λ (p : Places). IsInChain life.opening.now.shape.bucket_bits (swept_log log) key (previous_in (word_at n.words (record_place p a rec.Header)))) (sym its_places)
        (header_shown life events enabled published key a (closed_below a has over) (in_its_chain key a is_in) (subst (λ (p : Places). 0 < previous_in (word_at n.words (record_place p a rec.Header))) its_places some)))

    -- ---- so each reply shows the log
    step_shown : (step : Sweeping) → StepKnowsWords life.opening life.lists events s step → ShowsReply (swept_log log) s step (reply_to n.words (sweeping_ask s step))
    unfolding sweeping_ask
    step_shown (Finds key) knows = subst (ShowsEntry (swept_log log) s key) (sym (passed_reply n.words (find_ask s.finding) answer.Through)) (entry_shown key knows)
    step_shown (LoadsKey key addr) knows = λ over_head over_end is_in same. its_key_shown key addr.0 knows over_head is_in same
    step_shown (LoadsHeader key addr) knows = λ over_head over_end is_in above. its_header_shown key addr.0 knows over_head is_in above
    step_shown step knows = tt

    pub reply_shown : KnowsWords life.opening life.lists events s → ShowsReply (swept_log log) s s.step (reply_to n.words (sweep_ask s))
    reply_shown knows = step_shown s.step knows

    -- and it goes on to be sound
    pub reply_sound : KnowsWords life.opening life.lists events s → IsSweepSound s (swept_log log) → IsSweepSound (sweep_next s (reply_to n.words (sweep_ask s))) (swept_log log)
    reply_sound knows sound = sweep_next_sound s (swept_log log) (reply_to n.words (sweep_ask s)) sound (reply_shown knows)
