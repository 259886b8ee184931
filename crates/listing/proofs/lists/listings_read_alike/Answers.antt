use Rattle.listing.proofs.Writes.{listings_alike}
use Rattle.listing.proofs.lists.listings_read_alike.Goals as goal

pub returns : goal.returns
returns c = listings_alike
