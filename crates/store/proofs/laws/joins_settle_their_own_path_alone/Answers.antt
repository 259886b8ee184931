use Rattle.store.proofs.Kept.{refused_exactly_when_full, refused_changes_nothing, found_at_its_place, holds_old_join_new, others_stay, places_stay, again_changes_nothing, either_order}
use Rattle.store.proofs.laws.joins_settle_their_own_path_alone.Goals as goal

pub returns : goal.returns
returns g c =
    let join = g.K.Joinable.joined in
    let laws = g.met.K.Joinable in
    record {
      refused_when_full = refused_exactly_when_full join;
      refused_changes_nothing = refused_changes_nothing join;
      found_at_its_place = found_at_its_place join;
      holds_old_join_new = holds_old_join_new join;
      others_stay = others_stay join;
      places_stay = places_stay join;
      again_changes_nothing = again_changes_nothing join laws.idempotent laws.associative;
      either_order = either_order join laws.commutative laws.associative;
    }
