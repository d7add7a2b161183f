-- One call more among queues of calls: behind those of its actor's queue, or as a queue of its own.
use Rattle.std.proofs.Common.{◌≡◌, ◌<◌, ◌≤◌, ℕ, suc, cond, List, [], ◌∷◌, ◌++◌, Some, None, sym, ap, subst, ◌∙◌, arith, ⊎_elim, length, slice_get, filter}
use Rattle.std.specs.List.{insert, slice_set}
use Rattle.std.proofs.lemmas.List.{append-nil}
use Rattle.std.proofs.lemmas.Bool.{cases_lt, cases_eq, eq-eqb, ne_eqb}
use Rattle.std.proofs.lemmas.Option.{same_Some, slice_get_within, slice_get_cases}
use Rattle.std.proofs.lemmas.List.Elements.{filter-append}
use Rattle.fkv_playing.specs.declared.calls.ActorCall.{ActorCall}
use Rattle.fkv_playing.specs.Queues.{QueueState, AreQueuesOf, rank_of, is_of}
use Rattle.fkv_playing.proofs.Queuing.{insert_below, insert_at, insert_above, from_insert, set_at_same, set_at_other, from_set, append_cases, filter_nothing}

module _ (calls : List ActorCall) (call : ActorCall) where
  -- the calls of another actor stay, and those of this call's get it behind them
  calls_of_other : (rank : ℕ) → (rank_of call ≡ rank → ⊥) → filter (is_of rank) (calls ++ call ∷ []) ≡ filter (is_of rank) calls
  calls_of_other rank ne =
      filter-append (is_of rank) calls (call ∷ []) ∙ ap (λ b. filter (is_of rank) calls ++ cond b (call ∷ []) []) (ne_eqb (rank_of call) rank ne) ∙ append-nil (filter (is_of rank) calls)

  calls_of_this : (rank : ℕ) → rank_of call ≡ rank → filter (is_of rank) (calls ++ call ∷ []) ≡ filter (is_of rank) calls ++ call ∷ []
  calls_of_this rank same =
      filter-append (is_of rank) calls (call ∷ []) ∙ ap (λ b. filter (is_of rank) calls ++ cond b (call ∷ []) []) (eq-eqb (rank_of call) rank same)

  module _ (queues : List QueueState) (old : AreQueuesOf calls queues) (i : ℕ) where
    -- a queue that has this call alone stands between those of lower and of higher ranks
    pub put_new : (new : QueueState) → new.rank ≡ rank_of call → new.hand ≡ None → new.left ≡ call ∷ [] → i ≤ length queues
        → ((k : ℕ) (queue : QueueState) → k < i → slice_get queues k ≡ Some queue → queue.rank < rank_of call)
        → ((k : ℕ) (queue : QueueState) → i ≤ k → slice_get queues k ≡ Some queue → rank_of call < queue.rank)
        → AreQueuesOf (calls ++ call ∷ []) (insert queues i new)
    put_new new rank_is hand_is left_is within below above =
        let none : filter (is_of (rank_of call)) calls ≡ [] =
        filter_nothing (is_of (rank_of call)) calls
        (λ n other e. let its = old.all n other e in
        let at : slice_get queues its.0 ≡ Some its.1 = its.2 in
        let its_rank : its.1.rank ≡ rank_of other = its.3 in
        ne_eqb (rank_of other) (rank_of call)
        (λ same. ⊎_elim (λ (lt : its.0 < i). let h = below its.0 its.1 lt at in absurd (omega arith)) (λ (le : i ≤ its.0). let h = above its.0 its.1 le at in absurd (omega arith)) (cases_lt its.0 i)))
        in
        record {
          rising = λ lower upper a b lt at_a at_b.
              from_insert queues i new lower a within at_a
              (λ lower_lt old_a. from_insert queues i new upper b within at_b
              (λ upper_lt old_b. old.rising lower upper a b lt old_a old_b)
              (λ e same. let h = below lower a lower_lt old_a in let r : new.rank ≡ b.rank = ap (λ (q : QueueState). q.rank) same in omega arith)
              (λ j e from old_b. old.rising lower j a b (omega arith) old_a old_b))
              (λ e same. from_insert queues i new upper b within at_b
              (λ upper_lt old_b. absurd (omega arith))
              (λ f again. absurd (omega arith))
              (λ j f from old_b. let h = above j b from old_b in let r : new.rank ≡ a.rank = ap (λ (q : QueueState). q.rank) same in omega arith))
              (λ k e from old_a. from_insert queues i new upper b within at_b
              (λ upper_lt old_b. absurd (omega arith))
              (λ f again. absurd (omega arith))
              (λ j f also old_b. old.rising k j a b (omega arith) old_a old_b));
          each = λ at queue at_queue.
              from_insert queues i new at queue within at_queue
              (λ lt its. let h = below at queue lt its in old.each at queue its ∙ sym (calls_of_other queue.rank (λ e. absurd (omega arith))))
              (λ e same. let r : rank_of call ≡ queue.rank = sym rank_is ∙ ap (λ (q : QueueState). q.rank) same in
              sym (ap (λ (q : QueueState). q.left) same) ∙ left_is ∙ sym (calls_of_this queue.rank r ∙ ap (λ rank. filter (is_of rank) calls ++ call ∷ []) (sym r) ∙ ap (λ l. l ++ call ∷ []) none))
              (λ j e from its. let h = above j queue from its in old.each j queue its ∙ sym (calls_of_other queue.rank (λ f. absurd (omega arith))));
          idle = λ at queue at_queue.
              from_insert queues i new at queue within at_queue
              (λ lt its. old.idle at queue its)
              (λ e same. sym (ap (λ (q : QueueState). q.hand) same) ∙ hand_is)
              (λ j e from its. old.idle j queue its);
          all = λ number other e.
              ⊎_elim
              (λ (its : slice_get calls number ≡ Some other). let there = old.all number other its in
              ⊎_elim
              (λ (lt : there.0 < i). (there.0, there.1, insert_below queues i new there.0 lt within ∙ there.2, there.3))
              (λ (le : i ≤ there.0). (suc there.0, there.1, insert_above queues i new there.0 le within ∙ there.2, there.3))
              (cases_lt there.0 i))
              (λ (same : call ≡ other). (i, new, insert_at queues i new within, rank_is ∙ ap rank_of same))
              (append_cases calls call number other e);
        }

    -- the same where no queue before the place stands behind the call's actor, and the one at the place does
    pub put_between : (standing added : List QueueState) (new : QueueState) → standing ≡ queues → added ≡ insert standing i new → new ≡ record { rank = rank_of call; hand = None; left = call ∷ [] }
        → i ≤ length queues → ((k : ℕ) (queue : QueueState) → k < i → slice_get queues k ≡ Some queue → queue.rank < rank_of call)
        → ((queue : QueueState) → slice_get queues i ≡ Some queue → rank_of call < queue.rank) → AreQueuesOf (calls ++ call ∷ []) added
    put_between standing added new standing_is added_is new_is within below here =
        let above : (k : ℕ) (queue : QueueState) → i ≤ k → slice_get queues k ≡ Some queue → rank_of call < queue.rank =
        λ k queue from at. ⊎_elim
        (λ (same : k ≡ i). here queue (ap (slice_get queues) (sym same) ∙ at))
        (λ (ne : k ≡ i → ⊥). ⊎_elim
        (λ p. let h = here p.0 p.2 in let more = old.rising i k p.0 queue (omega arith) p.2 at in omega arith)
        (λ p. let h = slice_get_within queues k queue at in let past = p.0 in absurd (omega arith))
        (slice_get_cases queues i).1)
        (cases_eq k i)
        in
        subst (AreQueuesOf (calls ++ call ∷ [])) (sym (added_is ∙ ap (λ l. insert l i new) standing_is))
        (put_new new (ap (λ (q : QueueState). q.rank) new_is) (ap (λ (q : QueueState). q.hand) new_is) (ap (λ (q : QueueState). q.left) new_is) within below above)

    -- a queue keeps its rank, and gets one call of its actor more
    pub put_behind : (queue : QueueState) → slice_get queues i ≡ Some queue → queue.rank ≡ rank_of call
        → AreQueuesOf (calls ++ call ∷ []) (slice_set queues i (record queue { left = queue.left ++ call ∷ [] }))
    put_behind queue at_queue rank_is =
        let longer : QueueState = record queue { left = queue.left ++ call ∷ [] } in
        let within = slice_get_within queues i queue at_queue in
        record {
          rising = λ lower upper a b lt at_a at_b.
              from_set queues i longer lower a at_a
              (λ e same. from_set queues i longer upper b at_b
              (λ f again. absurd (omega arith))
              (λ ne old_b. let r : queue.rank ≡ a.rank = ap (λ (q : QueueState). q.rank) same in
              let h = old.rising lower upper queue b lt (ap (slice_get queues) e ∙ at_queue) old_b in omega arith))
              (λ ne old_a. from_set queues i longer upper b at_b
              (λ f again. let r : queue.rank ≡ b.rank = ap (λ (q : QueueState). q.rank) again in
              let h = old.rising lower upper a queue lt old_a (ap (slice_get queues) f ∙ at_queue) in omega arith)
              (λ also old_b. old.rising lower upper a b lt old_a old_b));
          each = λ at other at_other.
              from_set queues i longer at other at_other
              (λ e same. let r : queue.rank ≡ other.rank = ap (λ (q : QueueState). q.rank) same in
              sym (ap (λ (q : QueueState). q.left) same) ∙ ap (λ l. l ++ call ∷ []) (old.each i queue at_queue ∙ ap (λ rank. filter (is_of rank) calls) r)
              ∙ sym (calls_of_this other.rank (sym rank_is ∙ r)))
              (λ ne its. old.each at other its ∙ sym (calls_of_other other.rank (λ same.
              ⊎_elim
              (λ (lt : at < i). let h = old.rising at i other queue lt its at_queue in absurd (omega arith))
              (λ (le : i ≤ at). let h = old.rising i at queue other (omega arith) at_queue its in absurd (omega arith))
              (cases_lt at i))));
          idle = λ at other at_other.
              from_set queues i longer at other at_other
              (λ e same. sym (ap (λ (q : QueueState). q.hand) same) ∙ old.idle i queue at_queue)
              (λ ne its. old.idle at other its);
          all = λ number other e.
              ⊎_elim
              (λ (its : slice_get calls number ≡ Some other). let there = old.all number other its in
              ⊎_elim
              (λ (same : there.0 ≡ i). let it : queue ≡ there.1 = same_Some queue there.1 (sym at_queue ∙ ap (slice_get queues) (sym same) ∙ there.2) in
              (i, longer, set_at_same queues i longer within, ap (λ (q : QueueState). q.rank) it ∙ there.3))
              (λ (ne : there.0 ≡ i → ⊥). (there.0, there.1, set_at_other queues i there.0 longer ne ∙ there.2, there.3))
              (cases_eq there.0 i))
              (λ (same : call ≡ other). (i, longer, set_at_same queues i longer within, rank_is ∙ ap rank_of same))
              (append_cases calls call number other e);
        }
