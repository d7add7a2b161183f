-- How a reply moves what a session is about in the index: to what its own machine leads, and to what may begin then.
use Rattle.std.proofs.Common.{◌≡◌, ℕ, ◌∙◌, refl, sym, ap, subst, true, false}
use Rattle.std.specs.Prelude.{⊤}
use Rattle.fkv_plane.specs.declared.asks.Ask.TheVariants.{Done}
use Rattle.fkv_plane.specs.declared.places.Places.{Places}
use Rattle.fkv_plane.specs.Passing.{is_done}
use Rattle.fkv_index.specs.declared.finding.FindAnswer.{FindAnswer}
use Rattle.fkv_index.specs.declared.finding.Found.TheVariants as found
use Rattle.fkv_index.specs.declared.finding.Purpose.{Purpose}
use Rattle.fkv_index.specs.declared.homes.Home.{Home}
use Rattle.fkv_index.specs.Finding.{first_finding, find_next, find_next_ask}
use Rattle.fkv_index.specs.IndexWorld.{may_publish, spare_told}
use Rattle.fkv_index.specs.OneEntry.{IsHome}
use Rattle.law_refine.specs.Index.Finders.{Search, KeptSlot, SessionWork, NoWork, Searches, KeepsSlot, PublishesEntry, IndexPart, search_in}
use Rattle.law_refine.specs.Index.Searching.{HasEnded, SearchMoves, GoesOn, Rests, Begins}

-- no search was under way, or the reply ends it. A publish ends at its one reply
abbrev pub HasDone : Places → ℕ → SessionWork → Type 0
HasDone p reply (Searches its) = is_done (find_next_ask p its.finding reply) ≡ true
HasDone p reply work = ⊤

-- a search that ends tells what is to spare
abbrev pub spare_by : Places → ℕ → SessionWork → ℕ → ℕ
spare_by p reply (Searches its) spare = spare_told spare (find_next_ask p its.finding reply)
spare_by p reply work spare = spare

pub data WorkGoes (p : Places) (reply : ℕ) (before after : SessionWork) (spare : ℕ) : Type 0 where
  SeeksOn : (its : Search) → before ≡ Searches its → is_done (find_next_ask p its.finding reply) ≡ false → after ≡ Searches (record { finding = find_next p its.finding reply; purpose = its.purpose }) → WorkGoes p reply before after spare
  HasFound : (its : Search) (answer : FindAnswer) (slot : KeptSlot) → before ≡ Searches its → find_next_ask p its.finding reply ≡ Done answer → answer.found ≡ found.Slot slot.place slot.word → its.finding.home ≡ slot.home → after ≡ KeepsSlot slot
      → WorkGoes p reply before after spare
  Keeps : (slot : KeptSlot) → before ≡ KeepsSlot slot → after ≡ KeepsSlot slot → WorkGoes p reply before after spare
  Drops : HasDone p reply before → after ≡ NoWork → WorkGoes p reply before after spare
  Seeks : (home : Home) (purpose : Purpose) → HasDone p reply before → IsHome p home → after ≡ Searches (record { finding = first_finding p home purpose spare; purpose = purpose }) → WorkGoes p reply before after spare
  Enters : (slot : KeptSlot) (addr : ℕ) → before ≡ KeepsSlot slot → may_publish slot.word addr ≡ true → after ≡ PublishesEntry slot addr → WorkGoes p reply before after spare

pub record Goes (p : Places) (reply : ℕ) (before after : IndexPart) : Type 0 where
  pub work : WorkGoes p reply before.work after.work after.spare
  pub spare : after.spare ≡ spare_by p reply before.work before.spare

abbrev pub part : SessionWork → ℕ → IndexPart
part work spare = record { work = work; spare = spare }

-- neither a search nor a publish is under way
abbrev pub IsQuiet : SessionWork → Type 0
IsQuiet NoWork = ⊤
IsQuiet (Searches its) = ⊥
IsQuiet (KeepsSlot slot) = ⊤
IsQuiet (PublishesEntry slot addr) = ⊥

pub stays : (p : Places) (reply : ℕ) (work : SessionWork) (spare : ℕ) → IsQuiet work → Goes p reply (part work spare) (part work spare)
stays p reply NoWork spare quiet = record { work = Drops tt refl; spare = refl }
stays p reply (Searches its) spare quiet = absurd quiet
stays p reply (KeepsSlot slot) spare quiet = record { work = Keeps slot refl refl; spare = refl }
stays p reply (PublishesEntry slot addr) spare quiet = absurd quiet

pub stays_part : (p : Places) (reply : ℕ) (its : IndexPart) → IsQuiet its.work → Goes p reply its its
stays_part p reply its quiet = let same = stays p reply its.work its.spare quiet in record { work = same.work; spare = same.spare }

no_search : {X : Type 0} (work : SessionWork) (its : Search) → IsQuiet work → work ≡ Searches its → X
no_search work its quiet same = absurd (subst IsQuiet same quiet)

no_entry : {X : Type 0} (work : SessionWork) (slot : KeptSlot) (addr : ℕ) → IsQuiet work → work ≡ PublishesEntry slot addr → X
no_entry work slot addr quiet same = absurd (subst IsQuiet same quiet)

done_found : (p : Places) (reply : ℕ) (before : SessionWork) (its : Search) (answer : FindAnswer) → before ≡ Searches its → find_next_ask p its.finding reply ≡ Done answer → HasDone p reply before
done_found p reply before its answer same asks = subst (λ x. HasDone p reply x) (sym same) (ap is_done asks)

done_kept : (p : Places) (reply : ℕ) (before : SessionWork) (slot : KeptSlot) → before ≡ KeepsSlot slot → HasDone p reply before
done_kept p reply before slot same = subst (λ x. HasDone p reply x) (sym same) tt

-- where nothing is under way behind the reply, what was has ended
pub goes_done : (p : Places) (reply : ℕ) (before after : SessionWork) (spare : ℕ) → IsQuiet after → WorkGoes p reply before after spare → HasDone p reply before
goes_done p reply before after spare quiet (SeeksOn its was more goes) = no_search after _ quiet goes
goes_done p reply before after spare quiet (HasFound its answer slot was asks finds home keeps) = done_found p reply before its answer was asks
goes_done p reply before after spare quiet (Keeps slot was keeps) = done_kept p reply before slot was
goes_done p reply before after spare quiet (Drops done drops) = done
goes_done p reply before after spare quiet (Seeks home purpose done is seeks) = done
goes_done p reply before after spare quiet (Enters slot addr was may enters) = done_kept p reply before slot was

pub drops : (p : Places) (reply : ℕ) (before : IndexPart) (work : SessionWork) (spare : ℕ) → IsQuiet work → Goes p reply before (part work spare) → Goes p reply before (part NoWork spare)
drops p reply before work spare quiet goes = record { work = Drops (goes_done p reply before.work work spare quiet goes.work) refl; spare = goes.spare }

-- what a slot was kept for goes on, or not
pub data IsLeft (kept work : SessionWork) : Type 0 where
  Gone : work ≡ NoWork → IsLeft kept work
  Kept : work ≡ kept → IsLeft kept work

pub left : (p : Places) (reply : ℕ) (before : IndexPart) (kept work : SessionWork) (spare after : ℕ) → IsQuiet kept → Goes p reply before (part kept spare) → IsLeft kept work → after ≡ spare → Goes p reply before (part work after)
left p reply before kept work spare after quiet goes (Gone none) same = rw (none, same) (drops p reply before kept spare quiet goes)
left p reply before kept work spare after quiet goes (Kept keeps) same = rw (keeps, same) goes

-- what leads on from nothing leads on from what has ended
pub goes_on_to : (p : Places) (reply other : ℕ) (before mid after : IndexPart) → mid.work ≡ NoWork → Goes p reply before mid → Goes p other mid after → Goes p reply before after
goes_on_to p reply other before mid after none goes next = record { work = by_work next.work; spare = next.spare ∙ ap (λ x. spare_by p other x mid.spare) none ∙ goes.spare }
  where
    quiet : IsQuiet mid.work
    quiet = subst IsQuiet (sym none) tt

    done : HasDone p reply before.work
    done = goes_done p reply before.work mid.work mid.spare quiet goes.work

    no_slot : {X : Type 0} (slot : KeptSlot) → mid.work ≡ KeepsSlot slot → X
    no_slot slot was = let clash : NoWork ≡ KeepsSlot slot = sym none ∙ was in cc

    by_work : WorkGoes p other mid.work after.work after.spare → WorkGoes p reply before.work after.work after.spare
    by_work (SeeksOn its was more on) = no_search mid.work its quiet was
    by_work (HasFound its answer slot was asks finds home keeps) = no_search mid.work its quiet was
    by_work (Keeps slot was keeps) = no_slot slot was
    by_work (Drops ended gone) = Drops done gone
    by_work (Seeks home purpose ended is seeks) = Seeks home purpose done is seeks
    by_work (Enters slot addr was may enters) = no_slot slot was

pub leads_on : (p : Places) (reply other : ℕ) (before after : IndexPart) (spare : ℕ) → Goes p reply before (part NoWork spare) → Goes p other (part NoWork spare) after → Goes p reply before after
leads_on p reply other before after spare goes next = goes_on_to p reply other before (part NoWork spare) after refl goes next

-- and so a search moves
has_ended : (p : Places) (reply : ℕ) (before : SessionWork) → HasDone p reply before → HasEnded p reply (search_in before)
has_ended p reply NoWork done = tt
has_ended p reply (Searches its) done = done
has_ended p reply (KeepsSlot slot) done = tt
has_ended p reply (PublishesEntry slot addr) done = tt

pub search_moves : (p : Places) (reply : ℕ) (before after : SessionWork) (spare : ℕ) → WorkGoes p reply before after spare → SearchMoves p reply (search_in before) (search_in after)
search_moves p reply before after spare (SeeksOn its was more goes) = GoesOn its (ap search_in was) more (ap search_in goes)
search_moves p reply before after spare (HasFound its answer slot was asks finds home keeps) = Rests (has_ended p reply before (done_found p reply before its answer was asks)) (ap search_in keeps)
search_moves p reply before after spare (Keeps slot was keeps) = Rests (has_ended p reply before (done_kept p reply before slot was)) (ap search_in keeps)
search_moves p reply before after spare (Drops done drops) = Rests (has_ended p reply before done) (ap search_in drops)
search_moves p reply before after spare (Seeks home purpose done is seeks) = Begins home purpose spare (has_ended p reply before done) is.few (ap search_in seeks)
search_moves p reply before after spare (Enters slot addr was may enters) = Rests (has_ended p reply before (done_kept p reply before slot was)) (ap search_in enters)
