-- By what recovery reads of both.
use Rattle.std.proofs.Common.{◌∙◌}
use Rattle.law_order.proofs.recovered.prefix.law_forgotten.Goals as goal
use Rattle.law_order.proofs.OfPrefix.Forgotten.{named_alike}

pub returns : goal.returns
returns c = λ o n bytes events image other held agrees.
    let agree = c.law_forgotten_agree.ensures image other agrees in
    let turned = c.law_opens_alike.ensures.turned image other agree in
    record {
      commit = held.commit;
      current = held.current;
      named = named_alike image other agree.front held.commit held.named;
      faultless = λ fault found. (let back = c.law_opens_alike.ensures.fault other image fault turned found in held.faultless back.0 back.1);
      store = (let store = held.store in record { opened = store.opened; is = c.law_opens_alike.ensures.store image other store.opened agree store.is });
      each = λ r store.
          let was = c.law_opens_alike.ensures.store other image r turned store in
          let kept = held.each r was in
          record {
            shape = kept.shape;
            number = kept.number;
            points = kept.points;
            pairs = c.law_maps_alike.ensures image other r was store agree ∙ kept.pairs;
            legal = kept.legal;
            whole = kept.whole;
            risen = kept.risen;
          };
      reaches = c.law_long_opens.ensures.forgotten image other agrees held.reaches;
    }
