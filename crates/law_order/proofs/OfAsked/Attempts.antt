-- What an attempt asks for in the mailbox, and what its request has asked for there.
use Rattle.std.proofs.Common.{◌≡◌, ℕ, ◌+◌, ◌≤◌, ◌^◌, ◌∙◌, refl, sym, ap, subst, arith, Bool, true, false, []}
use Rattle.std.specs.Prelude.{⊤, ◌==◌, ◌||◌, if◌then◌else◌, Option, Some, None}
use Rattle.fkv_base.specs.declared.numbers.Addr.{Addr}
use Rattle.fkv_map.specs.Keys.{key_of}
use Rattle.fkv_plane.specs.declared.asks.Ask.{Ask}
use Rattle.fkv_plane.specs.declared.asks.Ask.TheVariants.{Done}
use Rattle.fkv_plane.specs.declared.places.Places.{Places}
use Rattle.law_commit.specs.Below.fkv_ops.DiskRecord.{DiskRecord}
use Rattle.law_commit.specs.Below.fkv_ops.Reason.TheVariants as reason
use Rattle.law_commit.specs.Below.fkv_ops.TryAnswer.{TryAnswer}
use Rattle.law_commit.specs.Below.fkv_ops.TryAnswer.TheVariants as answer
use Rattle.law_commit.specs.Below.fkv_ops.HeaderSaid.{HeaderSaid}
use Rattle.law_commit.specs.Below.fkv_ops.HeaderSaid.TheVariants.{Says, Spoiled}
use Rattle.law_commit.specs.Below.fkv_ops.Occasion.{Occasion}
use Rattle.law_commit.specs.Below.fkv_ops.Seen.{Seen}
use Rattle.law_commit.specs.Below.fkv_ops.HeaderWords.{header_said}
use Rattle.law_commit.specs.Below.fkv_ops.Requests.{is_chain_end}
use Rattle.law_commit.specs.Below.fkv_ops.Trying.{told_value, try_ask}
use Rattle.law_commit.specs.Below.fkv_ops.Values.{value_of}
use Rattle.law_commit.specs.Below.fkv_pending.TheAttempting.{Attempting}
use Rattle.law_commit.specs.Below.fkv_pending.TheAttempting.TheVariants.{Ended, Looks, Tries, Puts}
use Rattle.law_commit.specs.Below.fkv_pending.MailAnswer.TheVariants as mail
use Rattle.law_commit.specs.Below.fkv_pending.MailRecord.{MailRecord}
use Rattle.law_commit.specs.Below.fkv_pending.MailTask.{MailTask}
use Rattle.law_commit.specs.Below.fkv_pending.MailTask.TheVariants.{Take, Put}
use Rattle.law_commit.specs.Below.fkv_pending.TheMailing.{Mailing}
use Rattle.law_commit.specs.Below.fkv_pending.TheMailing.TheVariants as mailing
use Rattle.law_commit.specs.Below.fkv_pending.PendingRequest.{PendingRequest}
use Rattle.law_commit.specs.Below.fkv_pending.Mailing.{begin_told, is_gone, mail_ask, mail_next}
use Rattle.law_commit.specs.Below.fkv_pending.MailWorld.{is_at_end}
use Rattle.law_commit.specs.Below.fkv_pending.Pending.{with_sought, with_held, with_latch, with_asked, without_gone}
use Rattle.law_commit.specs.Below.fkv_pending.Attempting.{AttemptState, attempt_begun, attempt_ended, waits_for_disk, puts_addr, puts, tries, is_seeking_read, goes_on, held_of, moved_on, read_on, record_taken, goes_anew, mail_taken, not_ready, look_ledto, held_kept, awaits_record, leaves, tried, try_ledto, put_ledto, mail_moved, try_moved, attempting_next, attempt_next, new_attempt}
use Rattle.law_order.specs.Asked.Asked.{HasAskedSought}
use Rattle.law_order.proofs.OfAsked.Askers.{asker, asker_or, asked_count, asked_most}
use Rattle.law_order.proofs.OfAsked.Told.{IsAt, MailTold, Tells}
use Rattle.law_order.proofs.OfAsked.Tries.{IsTryRun, TryEndsSo, next_run, run_ends}

-- how it may end
abbrev pub EndsSo : Occasion → TryAnswer → Type 0
EndsSo occasion (answer.AwaitsDisk sought) = ⊥
EndsSo occasion its = TryEndsSo occasion its

-- while it is under way its request has asked where that says so, and at its end only one that goes on waiting, or that is tried again
abbrev pub asks_on : AttemptState → Attempting → Bool
asks_on a (Ended (answer.Wait why)) = a.pending.has_asked
asks_on a (Ended answer.Shift) = a.pending.has_asked
asks_on a (Ended its) = false
asks_on a step = a.pending.has_asked

abbrev pub PutsSought : Option MailTask → Option DiskRecord → Mailing → Type 0
PutsSought told None step = ⊥
PutsSought told (Some it) step = IsAt told (Put it.addr) step

put_sought : (told : Option MailTask) (sought : Option DiskRecord) (step : Mailing) → PutsSought told sought step → (it : DiskRecord) × (sought ≡ Some it) × IsAt told (Put it.addr) step
put_sought told None step puts = absurd puts
put_sought told (Some it) step puts = (it, refl, puts)

-- an attempt that looks has asked and takes; one that puts an address puts the one that it seeks
abbrev pub LooksOrPuts : Option MailTask → AttemptState → Attempting → Type 0
LooksOrPuts told a Looks = (a.pending.has_asked ≡ true) × IsAt told Take a.mailing
LooksOrPuts told a Puts = PutsSought told a.pending.sought a.mailing
LooksOrPuts told a step = ⊤

-- what is told of its step, by the mailbox's machine where that is under way
abbrev pub AttemptTold : Option Addr → Option MailTask → AttemptState → Attempting → ℕ → Option Addr → Type 0
AttemptTold asked told a Looks reply asked' = MailTold asked told a.mailing reply asked'
AttemptTold asked told a Puts reply asked' = MailTold asked told a.mailing reply asked'
AttemptTold asked told a step reply asked' = asked' ≡ asked

module _ (p : Places) (bits room : ℕ) (buckets : p.buckets ≡ 2 ^ bits) where
  abbrev pub AttemptAt : Option MailTask → AttemptState → Attempting → Type 0
  AttemptAt told a (Ended its) = EndsSo a.occasion its
  AttemptAt told a Tries = IsTryRun p bits room buckets a.seen a.occasion a.trial
  AttemptAt told a step = LooksOrPuts told a step

  -- Its request has asked for what is asked for, if it has asked. With the others that have asked, and with what is asked for nobody, no more has
  -- been asked for than there is.
  pub record AttemptAsks (asked : Option Addr) (told : Option MailTask) (others : ℕ) (occasion : Occasion) (a : AttemptState) : Type 0 where
    pub same : a.occasion ≡ occasion
    pub sought : HasAskedSought asked a.pending
    pub few : others + (asker (asks_on a a.step) + asker a.is_orphaned) ≤ asked_count asked
    pub at : AttemptAt told a a.step

  module _ (asked : Option Addr) (told : Option MailTask) (others : ℕ) (occasion : Occasion) where
    abbrev Goes : AttemptState → Type 0
    Goes a = AttemptAsks asked told others occasion a

    -- under way, at whatever step
    record Base (a : AttemptState) : Type 0 where
      same : a.occasion ≡ occasion
      sought : HasAskedSought asked a.pending
      few : others + (asker a.pending.has_asked + asker a.is_orphaned) ≤ asked_count asked

    -- its request hasn't asked
    record Free (a : AttemptState) : Type 0 where
      same : a.occasion ≡ occasion
      none : a.pending.has_asked ≡ false
      few : others + asker a.is_orphaned ≤ asked_count asked

    not_both : {A : Type 0} (c : Bool) → c ≡ false → c ≡ true → A
    not_both c one other = cc

    free_base : (a : AttemptState) → Free a → Base a
    free_base a free = record {
      same = free.same;
      sought = λ has. not_both a.pending.has_asked free.none has;
      few = let count : asker a.pending.has_asked ≡ 0 = ap asker free.none in let few : others + asker a.is_orphaned ≤ asked_count asked = free.few in omega (arith, count, few);
    }

    either_goes : (c : Bool) (a b : AttemptState) → Goes a → Goes b → Goes (if c then a else b)
    either_goes true a b one other = one
    either_goes false a b one other = other

    -- at this step
    still : (a : AttemptState) (step : Attempting) → a.step ≡ step → a.occasion ≡ occasion → HasAskedSought asked a.pending → others + (asker (asks_on a step) + asker a.is_orphaned) ≤ asked_count asked → AttemptAt told a step → Goes a
    still a step at same sought few its = record {
      same = same;
      sought = sought;
      few = subst (λ (x : Attempting). others + (asker (asks_on a x) + asker a.is_orphaned) ≤ asked_count asked) (sym at) few;
      at = subst (λ (x : Attempting). AttemptAt told a x) (sym at) its;
    }

    waits_on : (a : AttemptState) (why : _) → Base a → Goes (attempt_ended a (answer.Wait why))
    waits_on a why base = record { same = base.same; sought = base.sought; few = base.few; at = tt }

    -- a request that has finished leaves what it has asked for behind, for nobody
    leaves_on : (a : AttemptState) (its : TryAnswer) → EndsSo occasion its → asks_on a (Ended its) ≡ false → Base a → Goes (leaves a its)
    leaves_on a its ends none base =
        let b : AttemptState = leaves a its in
        let count : asker (asks_on a (Ended its)) ≡ 0 = ap asker none in
        let both : asker (a.is_orphaned || a.pending.has_asked) ≤ asker a.pending.has_asked + asker a.is_orphaned = asker_or a.is_orphaned a.pending.has_asked in
        let few : others + (asker a.pending.has_asked + asker a.is_orphaned) ≤ asked_count asked = base.few in
        record { same = base.same; sought = base.sought; few = omega (arith, count, both, few); at = subst (λ (x : Occasion). EndsSo x its) (sym base.same) ends }

    -- one that hasn't asked leaves none
    free_ends : (a : AttemptState) (its : TryAnswer) → EndsSo occasion its → asks_on a (Ended its) ≡ false → Free a → Goes (attempt_ended a its)
    free_ends a its ends none free =
        let count : asker (asks_on a (Ended its)) ≡ 0 = ap asker none in
        let few : others + asker a.is_orphaned ≤ asked_count asked = free.few in
        record { same = free.same; sought = λ has. not_both a.pending.has_asked free.none has; few = omega (arith, count, few); at = subst (λ (x : Occasion). EndsSo x its) (sym free.same) ends }

    begun_at : (c : Bool) (addr : Addr) → IsAt told (Put addr) (if c then mailing.StoresAddress addr else mailing.LoadsState (Put addr))
    begun_at true addr = refl
    begun_at false addr = refl

    puts_found : (a : AttemptState) (found : Option DiskRecord) → a.pending.sought ≡ found → Base a → Goes (puts_addr a found)
    puts_found a None e base = waits_on a reason.Disk base
    puts_found a (Some it) e base =
        let step : Mailing = if a.is_emptied then mailing.StoresAddress it.addr else mailing.LoadsState (Put it.addr) in
        record { same = base.same; sought = base.sought; few = base.few; at = subst (λ (x : Option DiskRecord). PutsSought told x step) (sym e) (begun_at a.is_emptied it.addr) }

    puts_on : (a : AttemptState) → Base a → Goes (puts a)
    puts_on a base = puts_found a a.pending.sought refl base

    tries_on : (a : AttemptState) → Base a → Goes (tries p bits a)
    tries_on a base = record { same = base.same; sought = base.sought; few = base.few; at = record { request = a.pending.request; spare = a.spare; replies = []; run = refl } }

    pub begun_asks : (pending : PendingRequest) (seen : Seen) (spare : ℕ) (is_orphaned : Bool) → HasAskedSought asked pending → others + (asker pending.has_asked + asker is_orphaned) ≤ asked_count asked
        → Goes (attempt_begun p bits pending seen occasion spare is_orphaned)
    begun_asks pending seen spare is_orphaned sought few = by_asked pending.has_asked refl
      where
        its : AttemptState
        its = new_attempt bits pending seen occasion spare is_orphaned

        from : Base its
        from = record { same = refl; sought = sought; few = few }

        by_asked : (c : Bool) → pending.has_asked ≡ c → Goes (if c then record its { mailing = mailing.LoadsState Take; step = Looks } else goes_on p bits its)
        by_asked true e = record { same = refl; sought = sought; few = few; at = (e, refl) }
        by_asked false e = either_goes (is_seeking_read its) (puts its) (tries p bits its) (puts_on its from) (tries_on its from)

    -- ---- behind a look
    told_ends : (a : AttemptState) (value : Option ℕ) → Free a → Goes (attempt_ended a (told_value value))
    told_ends a None free = free_ends a answer.Absent tt refl free
    told_ends a (Some value) free = free_ends a (answer.Found (record { 0 = value })) tt refl free

    read_goes : (a : AttemptState) (its : MailRecord) (said : HeaderSaid) → Free a → Goes (read_on a its said)
    unfolding with_sought
    read_goes a its Spoiled free = puts_on a (free_base a free)
    read_goes a its (Says previous version) free =
        let on : AttemptState = record a { pending = with_sought a.pending (moved_on a.pending.sought previous) } in
        let ends : Bool = is_chain_end a.pending.request.floor previous in
        let below : AttemptState = if ends then attempt_ended a answer.Absent else puts on in
        either_goes (its.key.0 == (key_of a.pending.request.op).0) (attempt_ended a (told_value (value_of its.value))) below (told_ends a (value_of its.value) free)
        (either_goes ends (attempt_ended a answer.Absent) (puts on) (free_ends a answer.Absent tt refl free) (puts_on on (free_base on (record { same = free.same; none = free.none; few = free.few }))))

    taken_goes : (a : AttemptState) (its : MailRecord) (said : HeaderSaid) → Free a → Goes (record_taken p bits a its said)
    unfolding with_held
    taken_goes a its said free =
        let holds : AttemptState = record a { pending = with_held a.pending (held_of a.pending.sought its said) } in
        either_goes (is_seeking_read a) (read_on a its said) (tries p bits holds) (read_goes a its said free) (tries_on holds (free_base holds (record { same = free.same; none = free.none; few = free.few })))

    anew_goes : (a : AttemptState) (begin : Addr) → Free a → Goes (goes_anew p bits a begin)
    unfolding without_gone
    anew_goes a begin free =
        let its : AttemptState = record a { pending = without_gone a.pending begin } in
        let base : Base its = free_base its (record { same = free.same; none = free.none; few = free.few }) in
        either_goes (is_seeking_read a) (waits_for_disk its) (tries p bits its) (waits_on its reason.Disk base) (tries_on its base)

    mail_goes : (a : AttemptState) (its : MailRecord) → Free a → Goes (mail_taken p bits a its)
    mail_goes a its free =
        either_goes (is_gone its) (goes_anew p bits a (begin_told its)) (record_taken p bits a its (header_said its.header)) (anew_goes a (begin_told its) free) (taken_goes a its (header_said its.header) free)

    none_goes : (a : AttemptState) → Base a → Goes (not_ready p bits a)
    none_goes a base = either_goes (is_seeking_read a) (waits_for_disk a) (tries p bits a) (waits_on a reason.Disk base) (tries_on a base)

    -- ---- behind a try
    awaits_goes : (a : AttemptState) (it : DiskRecord) → Base a → Goes (awaits_record a it)
    unfolding with_held with_sought
    awaits_goes a it base = by_asked a.pending.has_asked refl
      where
        its : AttemptState
        its = record a { pending = with_held a.pending (held_kept a.pending.request.held it.entry) }

        next : AttemptState
        next = record its { pending = with_sought its.pending (Some it) }

        by_asked : (c : Bool) → a.pending.has_asked ≡ c → Goes (if c then waits_for_disk its else puts next)
        by_asked true e = waits_on its reason.Disk (record { same = base.same; sought = base.sought; few = base.few })
        by_asked false e =
            let count : asker a.pending.has_asked ≡ 0 = ap asker e in
            let few : others + (asker a.pending.has_asked + asker a.is_orphaned) ≤ asked_count asked = base.few in
            puts_on next (free_base next (record { same = base.same; none = e; few = omega (arith, count, few) }))

    tried_goes : (a : AttemptState) (its : TryAnswer) → TryEndsSo occasion its → Base a → Goes (tried a its)
    tried_goes a (answer.AwaitsDisk it) ends base = awaits_goes a it base
    tried_goes a (answer.Wait why) ends base = waits_on a why base
    tried_goes a (answer.Done reply) ends base = leaves_on a (answer.Done reply) tt refl base
    tried_goes a (answer.Found value) ends base = leaves_on a (answer.Found value) tt refl base
    tried_goes a answer.Absent ends base = leaves_on a answer.Absent tt refl base
    tried_goes a answer.Shift ends base = record { same = base.same; sought = base.sought; few = base.few; at = tt }
    tried_goes a answer.IndexFull ends base = leaves_on a answer.IndexFull ends refl base
    tried_goes a answer.LogFull ends base = leaves_on a answer.LogFull ends refl base

    try_goes : (a : AttemptState) (ask : Ask TryAnswer) → a.step ≡ Tries → Base a → IsTryRun p bits room buckets a.seen a.occasion a.trial → ((its : TryAnswer) → ask ≡ Done its → TryEndsSo occasion its) → Goes (try_ledto a ask)
    unfolding try_ledto with_latch
    try_goes a (Done its) at base is ends = tried_goes (record a { spare = a.trial.spare; pending = with_latch a.pending a.trial.has_shared }) its (ends its refl) (record { same = base.same; sought = base.sought; few = base.few })
    try_goes a ask at base is ends = still a Tries at base.same base.sought base.few is

  -- ---- each reply
  module _ (asked : Option Addr) (told : Option MailTask) (asked' : Option Addr) (others : ℕ) (occasion : Occasion) where
    abbrev Then : AttemptState → Type 0
    Then a = AttemptAsks asked' told others occasion a

    abbrev Before : AttemptState → Type 0
    Before a = Base asked told others occasion a

    moved : (a : AttemptState) → asked' ≡ asked → Before a → Base asked' told others occasion a
    moved a same base = subst (λ (x : Option Addr). Base x told others occasion a) (sym same) base

    looks_still : (a : AttemptState) (next : Mailing) → a.step ≡ Looks → a.mailing ≡ next → Base asked' told others occasion a → a.pending.has_asked ≡ true → IsAt told Take next → Then a
    looks_still a next at same base has its = still asked' told others occasion a Looks at base.same base.sought base.few (has, subst (IsAt told Take) (sym same) its)

    puts_still : (a : AttemptState) (next : Mailing) (it : DiskRecord) → a.step ≡ Puts → a.mailing ≡ next → Base asked' told others occasion a → a.pending.sought ≡ Some it → IsAt told (Put it.addr) next → Then a
    puts_still a next it at same base seeks its =
        still asked' told others occasion a Puts at base.same base.sought base.few (subst (λ (x : Option DiskRecord). PutsSought told x a.mailing) (sym seeks) (subst (IsAt told (Put it.addr)) (sym same) its))

    look_goes : (n : ℕ) (a : AttemptState) (next : Mailing) → a.step ≡ Looks → a.mailing ≡ next → Before a → a.pending.has_asked ≡ true → told ≡ Some Take → (is_at_end next ≡ false → IsAt told Take next) → Tells asked told next asked'
        → Then (look_ledto p bits a (mail_ask n next))
    unfolding look_ledto mail_ask with_asked
    look_goes n a (mailing.Ended (mail.Taken its)) at same base has task goes tells =
        let b : AttemptState = record a { is_emptied = true; pending = with_asked a.pending false } in
        let one : asker a.pending.has_asked ≡ 1 = ap asker has in
        let most : asked_count asked ≤ 1 = asked_most asked in
        let few : others + (asker a.pending.has_asked + asker a.is_orphaned) ≤ asked_count asked = base.few in
        mail_goes asked' told others occasion b its (record { same = base.same; none = refl; few = omega (arith, one, most, few) })
    look_goes n a (mailing.Ended mail.Cleared) at same base has task goes tells = let clash = tells.0 in cc
    look_goes n a (mailing.Ended mail.Asked) at same base has task goes tells = let clash = tells.task in cc
    look_goes n a (mailing.Ended mail.NotReady) at same base has task goes tells = none_goes asked' told others occasion a (moved a tells base)
    look_goes n a (mailing.Ended mail.Occupied) at same base has task goes tells = none_goes asked' told others occasion a (moved a tells base)
    look_goes n a next at same base has task goes tells = looks_still a next at same (moved a tells base) has (goes refl)

    some_addr : (one other : Addr) → told ≡ Some (Put one) → told ≡ Some (Put other) → one ≡ other
    some_addr one other is was = cc

    put_goes : (n : ℕ) (a : AttemptState) (next : Mailing) (it : DiskRecord) → a.step ≡ Puts → a.mailing ≡ next → Before a → a.pending.sought ≡ Some it → told ≡ Some (Put it.addr) → (is_at_end next ≡ false → IsAt told (Put it.addr) next)
        → Tells asked told next asked' → Then (put_ledto a (mail_ask n next))
    unfolding put_ledto mail_ask with_asked
    put_goes n a (mailing.Ended mail.Asked) it at same base seeks task goes tells =
        let b : AttemptState = record a { pending = with_asked a.pending true } in
        let none : asked_count asked ≡ 0 = ap asked_count tells.none in
        let one : asked_count asked' ≡ 1 = ap asked_count tells.now in
        let few : others + (asker a.pending.has_asked + asker a.is_orphaned) ≤ asked_count asked = base.few in
        waits_on asked' told others occasion b reason.Disk (record {
          same = base.same;
          sought = λ has. record { it = it; seeks = seeks; asks = tells.now ∙ ap (λ (x : Addr). Some x) (some_addr tells.addr it.addr tells.task task) };
          few = omega (arith, none, one, few);
        })
    put_goes n a (mailing.Ended mail.Cleared) it at same base seeks task goes tells = let clash = tells.0 in cc
    put_goes n a (mailing.Ended (mail.Taken its)) it at same base seeks task goes tells = let clash = tells.0 in cc
    put_goes n a (mailing.Ended mail.NotReady) it at same base seeks task goes tells = waits_on asked' told others occasion a reason.Disk (moved a tells base)
    put_goes n a (mailing.Ended mail.Occupied) it at same base seeks task goes tells = waits_on asked' told others occasion a reason.Disk (moved a tells base)
    put_goes n a next it at same base seeks task goes tells = puts_still a next it at same (moved a tells base) seeks (goes refl)

    row_goes : (n : ℕ) (a : AttemptState) (step : Attempting) (reply : ℕ) → a.step ≡ step → a.occasion ≡ occasion → HasAskedSought asked a.pending → others + (asker (asks_on a step) + asker a.is_orphaned) ≤ asked_count asked → AttemptAt told a step
        → AttemptTold asked told a step reply asked' → Then (attempting_next p bits room n (record a { effect = None }) step reply)
    unfolding attempting_next
    row_goes n a (Ended its) reply at same sought few is tells =
        subst (λ (x : Option Addr). AttemptAsks x told others occasion (record a { effect = None })) (sym tells) (still asked told others occasion (record a { effect = None }) (Ended its) at same sought few is)
    row_goes n a Looks reply at same sought few is tells =
        look_goes n (mail_moved (record a { effect = None }) reply) (mail_next a.mailing reply) at refl (record { same = same; sought = sought; few = few }) is.0 (tells.task Take is.1) (tells.goes Take is.1) tells.tells
    row_goes n a Tries reply at same sought few is tells =
        let after : AttemptState = try_moved p room (record a { effect = None }) reply in
        let run : IsTryRun p bits room buckets a.seen a.occasion after.trial = next_run p bits room buckets a.seen a.occasion a.trial reply is in
        try_goes asked' told others occasion after (try_ask p after.trial) at (moved after tells (record { same = same; sought = sought; few = few })) run
        (λ its e. subst (λ (x : Occasion). TryEndsSo x its) same (run_ends p bits room buckets a.seen a.occasion after.trial its run e))
    row_goes n a Puts reply at same sought few is tells =
        let its = put_sought told a.pending.sought a.mailing is in
        put_goes n (mail_moved (record a { effect = None }) reply) (mail_next a.mailing reply) its.0 at refl (record { same = same; sought = sought; few = few }) its.1 (tells.task (Put its.0.addr) its.2) (tells.goes (Put its.0.addr) its.2) tells.tells

    pub attempt_asks : (n : ℕ) (a : AttemptState) (reply : ℕ) → AttemptAsks asked told others occasion a → AttemptTold asked told a a.step reply asked' → AttemptAsks asked' told others occasion (attempt_next p bits room n a reply)
    attempt_asks n a reply its tells = row_goes n a a.step reply refl its.same its.sought its.few its.at tells
