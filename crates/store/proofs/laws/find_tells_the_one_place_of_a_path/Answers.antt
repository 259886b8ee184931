use Rattle.store.proofs.Kept.{found_is_held, held_is_found, past_the_end}
use Rattle.store.proofs.laws.find_tells_the_one_place_of_a_path.Goals as goal

pub returns : goal.returns
returns g c =
    let blank = g.K.Joinable.empty in
    record { found_is_held = found_is_held blank; held_is_found = held_is_found blank; past_the_end = past_the_end blank }
