-- A search for a read beside a life, that no session makes. It begins at any moment, and goes on by the words as they are then. So it comes to where the chain of its home begins.
use Rattle.std.proofs.Common.{◌≡◌, ℕ, ◌^◌, sym, subst, List, ◌∷◌}
use Rattle.fkv_base.specs.declared.numbers.Key.{Key}
use Rattle.fkv_plane.specs.declared.places.Places.{Places}
use Rattle.fkv_plane.specs.Asked.{reply_to}
use Rattle.fkv_index.specs.declared.finding.Finding.{Finding}
use Rattle.fkv_index.specs.declared.finding.Purpose.TheVariants.{Read}
use Rattle.fkv_index.specs.Entries.{entry_at, IsEntryAnswered}
use Rattle.fkv_index.specs.Finding.{first_finding, find_ask, find_next, find_next_ask}
use Rattle.fkv_index.specs.IndexWorld.{IndexWorld}
use Rattle.fkv_index.specs.OneEntry.{IsHome, IsLoad, Grows}
use Rattle.fkv_index.specs.Slots.{home_of}
use Rattle.fkv_index.proofs.Shown.{IsSound, homes_are_there}
use Rattle.law_log.specs.Ghosts.{Ghosts, Log}
use Rattle.law_world.specs.Below.fkv_world.Runs.{World, run}
use Rattle.law_world.specs.Below.fkv_world.World.{Event, Now}
use Rattle.law_world.proofs.Below.fkv_world.Shown.{places_stay}
use Rattle.law_world.specs.Guarded.Shows as guard
use Rattle.law_refine.specs.Events.GhostEvents.{life_ghosts}
use Rattle.law_refine.specs.Events.Reserved.{IsUnbornFrom, ReservesNothing, tail_at}
use Rattle.law_refine.specs.Heads.Heads.{LeadToHeads, head_at}
use Rattle.law_refine.specs.Heads.Searches.{IsHeadAnswered}
use Rattle.law_refine.specs.Index.LifeEntries.{lists_seen}
use Rattle.law_refine.specs.Index.Shows as index
use Rattle.law_refine.specs.Index.Shows.{Shows, seen_by_index}
use Rattle.law_refine.proofs.OfHeads.Entries.{head_addr}
use Rattle.law_refine.proofs.OfHeads.LifeHeads.{answered_head, life_leads}
use Rattle.law_refine.proofs.OfIndex.LifeFacts.{index_shown, life_sound, of_life}
use Rattle.law_refine.proofs.OfIndex.LifeMoves.{life_moves}
use Rattle.law_refine.proofs.OfIndex.Permitted.{are_permitted}
use Rattle.law_refine.proofs.OfIndex.Readers.{ReadsOn, read_entry, read_first, read_loads, read_more, read_next}
use Rattle.law_refine.proofs.OfIndex.Worlds.{life_shows}

-- it has come so far by the words behind these events
abbrev pub ReadsBehind : World → (ℕ → List ℕ) → List Event → Finding → Type 0
ReadsBehind opening lists events f = ReadsOn (run opening events).now.places (run opening events).now.words (lists_seen opening lists events) f

-- each key has a home that there is
pub life_home : (opening : World) (lists : ℕ → List ℕ) (events : List Event) (key : Key) → index.IsOpened opening lists → IsHome (run opening events).now.places (home_of opening.now.shape.bucket_bits key)
life_home opening lists events key opened =
    let p : Places = (run opening events).now.places in
    let buckets : p.buckets ≡ 2 ^ opening.now.shape.bucket_bits = subst (λ (x : Places). x.buckets ≡ 2 ^ opening.now.shape.bucket_bits) (sym (places_stay opening events)) opened.buckets in
    homes_are_there p opening.now.shape.bucket_bits key buckets

-- ---- it begins
pub life_read_first : (opening : World) (lists : ℕ → List ℕ) (events : List Event) (key : Key) → index.IsOpened opening lists
    → ReadsBehind opening lists events (first_finding (run opening events).now.places (home_of opening.now.shape.bucket_bits key) Read 0)
life_read_first opening lists events key opened =
    read_first (run opening events).now.places (run opening events).now.words (lists_seen opening lists events) (home_of opening.now.shape.bucket_bits key) (life_home opening lists events key opened)

-- ---- while an event happens it stands where it stood
pub life_read_stays : (opening : World) (lists : ℕ → List ℕ) (before : List Event) (event : Event) (f : Finding) → index.IsOpened opening lists
    → ReadsBehind opening lists before f → ReadsBehind opening lists (event ∷ before) f
life_read_stays opening lists before event f opened reads =
    let n : Now = (run opening before).now in
    let after : Now = (run opening (event ∷ before)).now in
    let shown = index_shown n (seen_by_index opening lists before) (life_sound opening lists before opened) (life_shows opening lists before opened (are_permitted opening lists before opened)) in
    let grows : Grows n.places n.words after.words (lists_seen opening lists before) (lists_seen opening lists (event ∷ before)) = (life_moves opening lists event before opened).grows in
    let more : ReadsOn n.places after.words (lists_seen opening lists (event ∷ before)) f =
    read_more n.places n.words after.words (lists_seen opening lists before) (lists_seen opening lists (event ∷ before)) shown.spares f shown.its_index grows reads in
    let first : n.places ≡ opening.now.places = places_stay opening before in
    let behind : after.places ≡ opening.now.places = places_stay opening (event ∷ before) in
    subst (λ (p : Places). ReadsOn p after.words (lists_seen opening lists (event ∷ before)) f) (sym behind) (subst (λ (p : Places). ReadsOn p after.words (lists_seen opening lists (event ∷ before)) f) first more)

-- ---- what is so of it in the world of the index is so in the life
module _ (opening : World) (lists : ℕ → List ℕ) (events : List Event) (f : Finding) (opened : index.IsOpened opening lists) (reads : ReadsBehind opening lists events f) where
  abbrev n : Now
  n = (run opening events).now

  abbrev w : IndexWorld
  w = seen_by_index opening lists events

  sound : IsSound w
  sound = life_sound opening lists events opened

  shows : Shows n w
  shows = life_shows opening lists events opened (are_permitted opening lists events opened)

  seen : ReadsOn w.now.places w.now.words w.lists f
  seen = subst (λ (p : Places). ReadsOn p w.now.words w.lists f) (sym shows.places) (subst (λ (words : List ℕ). ReadsOn n.places words w.lists f) (sym shows.words) reads)

  -- it asks for no change
  pub life_read_loads : IsLoad (find_ask f)
  life_read_loads = read_loads w f sound seen

  -- it goes on by its reply
  pub life_read_next : ReadsBehind opening lists events (find_next n.places f (reply_to n.words (find_ask f)))
  life_read_next = of_life (λ p words. ReadsOn p words w.lists (find_next p f (reply_to words (find_ask f)))) n w shows (read_next w f sound seen)

  -- and comes to the entry of its home
  pub life_read_entry : IsEntryAnswered (entry_at n.places n.words w.lists f.home) (find_next_ask n.places f (reply_to n.words (find_ask f)))
  life_read_entry = of_life (λ p words. IsEntryAnswered (entry_at p words w.lists f.home) (find_next_ask p f (reply_to words (find_ask f)))) n w shows (read_entry w f sound seen)

-- ---- so it comes to where the chain of its home begins then
pub life_read_head : (opening : World) (start : ℕ) (lists : ℕ → List ℕ) (ghosts : Ghosts) (events : List Event) (f : Finding)
    → guard.IsOpened opening.now start → index.IsOpened opening lists → IsUnbornFrom (tail_at opening.now) ghosts → ReservesNothing ghosts → LeadToHeads opening.now lists ghosts.log
    → ReadsBehind opening lists events f
    → IsHeadAnswered (head_at (life_ghosts opening ghosts events).log f.home) (find_next_ask (run opening events).now.places f (reply_to (run opening events).now.words (find_ask f)))
life_read_head opening start lists ghosts events f opened in_order none free leads reads =
    let n : Now = (run opening events).now in
    let log : Log = (life_ghosts opening ghosts events).log in
    let seen : ℕ → List ℕ = lists_seen opening lists events in
    answered_head (entry_at n.places n.words seen f.home) (head_at log f.home) (find_next_ask n.places f (reply_to n.words (find_ask f)))
    (head_addr n seen log f.home (life_leads opening start lists ghosts events opened in_order none free leads) reads.its_home)
    (life_read_entry opening lists events f in_order reads)
