use Rattle.machine.specs.Kinds.{Laws, kind_of}
use Rattle.agreement.proofs.Agree.{agreement, any_order, finished_everywhere, stores_sound}
use Rattle.agreement.proofs.copies_agree_below_their_sweep_stamps.Goals as goal

pub returns : goal.returns
returns g c =
    let laws : Laws (kind_of g.K.Joinable g.K.Dated) = record { idempotent = g.met.K.Joinable.idempotent; commutative = g.met.K.Joinable.commutative; associative = g.met.K.Joinable.associative } in
    record {
      agreement = agreement _ laws;
      any_order = any_order _ laws;
      finished_everywhere = finished_everywhere _ laws;
      stores_sound = stores_sound _ laws;
    }
