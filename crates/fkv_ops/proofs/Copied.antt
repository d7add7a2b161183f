-- How a try goes on to a new record: with the exclusive latch where it needs it, and with the old value where that counts.
use Rattle.std.proofs.Common.{◌≡◌, ℕ, [], refl, sym, ◌∙◌, subst, Bool, true, false}
use Rattle.std.specs.Prelude.{if◌then◌else◌, None}
use Rattle.fkv_map.specs.Map.{absent_word}
use Rattle.fkv_latch.specs.declared.latching.LatchTask.TheVariants.{TakeExclusive}
use Rattle.fkv_ops.specs.declared.appending.Appending.TheVariants.{Reserves}
use Rattle.fkv_ops.specs.declared.trying.OldValue.{OldValue}
use Rattle.fkv_ops.specs.declared.trying.OldValue.TheVariants.{InMemory, Known}
use Rattle.fkv_ops.specs.declared.trying.Trying.TheVariants.{TakesExclusive, LoadsOld}
use Rattle.fkv_ops.specs.Values.{value_of}
use Rattle.fkv_ops.specs.Requests.{is_blind}
use Rattle.fkv_ops.specs.Walking.{walk_on}
use Rattle.fkv_ops.specs.Trying.{TryState, with_latch, appends, copies_from, copies, slot_of, words_of}
use Rattle.fkv_ops.specs.TryRun.{Trial, Told}
use Rattle.fkv_ops.specs.Reasons.{HasEntry, needs_exclusive}
use Rattle.fkv_ops.specs.Effects.{IsMadeOf, OfRecord, CountsNot}
use Rattle.fkv_ops.specs.Bounds.{bounds_at, tail_bound}
use Rattle.fkv_ops.proofs.Walked.{walk_on_loads, walk_on_found, walk_on_same}
use Rattle.fkv_ops.proofs.Appended.{append_begun_true, append_begun_asks}
use Rattle.fkv_ops.proofs.TryRows.{norm, latch_held, Updates, OldRow, CopyRow, Alone, Comes}

pub appends_true : (c : Trial) (told : Told) (t : TryState) (old : ℕ) (is_current : Bool) → t.effect ≡ None → Updates c told t → HasEntry c told t.walk.place t.walk.entry → IsMadeOf c told t.walk.place t.walk.entry (value_of old) is_current
    → Alone c told is_current → Comes c told None [] (latch_held t) (appends (norm c t) old)
unfolding appends
appends_true c told t old is_current quiet updates slot made_of alone = record {
  same = refl;
  owes = refl;
  its_effect = quiet;
  its_told = refl;
  row = record {
    updates = record { under = updates.under; update = updates.update; stays = updates.stays; lacks = updates.lacks };
    place = t.walk.place;
    entry = t.walk.entry;
    old = value_of old;
    is_current = is_current;
    its_reply = refl;
    made_of = made_of;
    alone = alone;
    last = Reserves;
    appends = append_begun_true c told Reserves (slot_of (norm c t)) (words_of c.request t.walk.entry (value_of old)) slot refl (refl, refl) updates.update;
    asks = append_begun_asks c.places (slot_of (norm c t)) (words_of c.request t.walk.entry (value_of old)) (tail_bound (bounds_at c.occasion));
  };
}

copies_memory_true : (c : Trial) (told : Told) (t : TryState) (is_current : Bool) → t.effect ≡ None → Updates c told t → HasEntry c told t.walk.place t.walk.entry → CopyRow c told t.walk is_current → Alone c told is_current
    → Comes c told None [] (latch_held t) (copies_from (norm c t) InMemory)
unfolding copies_from
copies_memory_true c told t is_current quiet updates slot copy alone = by_blind (is_blind c.request.op) refl
  where
    by_blind : (b : Bool) → is_blind c.request.op ≡ b → Comes c told None [] (latch_held t) (if b then appends (norm c t) absent_word else record (norm c t) { walk = walk_on t.walk; step = LoadsOld })
    by_blind true e = appends_true c told t absent_word is_current quiet updates slot
        (subst (IsMadeOf c told t.walk.place t.walk.entry (value_of absent_word)) copy.current (OfRecord copy.found.its.its_record copy.may (CountsNot e))) alone
    by_blind false e = record {
      same = refl;
      owes = refl;
      its_effect = quiet;
      its_told = refl;
      row = record {
        updates = record { under = updates.under; update = updates.update; stays = updates.stays; lacks = λ none. updates.lacks (sym (walk_on_same t.walk).1 ∙ none) };
        addr = copy.addr;
        version = copy.version.0;
        found = walk_on_found c told t.walk copy.addr copy.version copy.found.at copy.found.its;
        may = copy.may;
        alone = subst (Alone c told) (sym copy.current) alone;
        loads = walk_on_loads c told t.walk copy.addr copy.version copy.found.at copy.found.its;
      };
    }

pub copies_from_true : (c : Trial) (told : Told) (t : TryState) (old : OldValue) (is_current : Bool) → t.effect ≡ None → Updates c told t → HasEntry c told t.walk.place t.walk.entry → OldRow c told t.walk old is_current → Alone c told is_current
    → Comes c told None [] (latch_held t) (copies_from (norm c t) old)
unfolding copies_from
copies_from_true c told t (Known old) is_current quiet updates slot made_of alone = appends_true c told t old is_current quiet updates slot made_of alone
copies_from_true c told t InMemory is_current quiet updates slot copy alone = copies_memory_true c told t is_current quiet updates slot copy alone

pub copies_true : (c : Trial) (told : Told) (t : TryState) (old : OldValue) (is_current : Bool) → t.effect ≡ None → t.has_exclusive ≡ false → Updates c told t → HasEntry c told t.walk.place t.walk.entry → OldRow c told t.walk old is_current
    → Comes c told None [] (latch_held t) (copies c.places (norm c t) old is_current)
unfolding copies
copies_true c told t old is_current quiet not_alone updates slot its_old = by_need (needs_exclusive c is_current) refl
  where
    no : {X : Type 0} → false ≡ true → X
    no f = cc

    by_need : (b : Bool) → needs_exclusive c is_current ≡ b
        → Comes c told None [] (latch_held t) (if b then with_latch c.places (norm c t) TakeExclusive (TakesExclusive old) else copies_from (norm c t) old)
    by_need true e = record {
      same = refl;
      owes = refl;
      its_effect = quiet;
      its_told = refl;
      row = record { not_alone = not_alone; updates = record { under = updates.under; update = updates.update; stays = updates.stays; lacks = updates.lacks }; slot = slot; is_current = is_current; its_old = its_old; need = e; its_latching = refl };
    }
    by_need false e = copies_from_true c told t old is_current quiet updates slot its_old (λ need. no (sym e ∙ need))
