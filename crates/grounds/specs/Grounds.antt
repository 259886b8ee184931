-- The numbers of the grounds, by which the contracts of all calls name them. Assumes nothing.
use Rattle.std.specs.Prelude.{ℕ, Ok, Err, Result}
use Rattle.grounds.specs.declared.Ground.{Ground}
use Rattle.grounds.specs.declared.Ground.TheVariants.{BadLine, NoSuchSweep, CopyCount, PlacesOutOfRange, StoreNotEmpty, NoSuchCopy, SameCopy, NoSuchLetter, NotAwaited, PlaceNotHeld, NotSound, NotGranted, WrongServer, StampTooLow, DirectoryInUse, StoreFull, BagFull, NothingShown, TooManyLinks, MemoryTooShort}

-- each ground's number
abbrev pub ground_number : Ground → ℕ
ground_number BadLine = 1
ground_number NoSuchSweep = 2
ground_number CopyCount = 3
ground_number PlacesOutOfRange = 4
ground_number StoreNotEmpty = 5
ground_number NoSuchCopy = 6
ground_number SameCopy = 7
ground_number NoSuchLetter = 8
ground_number NotAwaited = 9
ground_number PlaceNotHeld = 10
ground_number NotSound = 11
ground_number NotGranted = 12
ground_number WrongServer = 13
ground_number StampTooLow = 14
ground_number DirectoryInUse = 15
ground_number StoreFull = 16
ground_number BagFull = 17
ground_number NothingShown = 18
ground_number TooManyLinks = 19
ground_number MemoryTooShort = 20

-- a call's answer with its ground, if it was refused, by number
abbrev pub by_number : {A : Type 0} → Result A Ground → Result A ℕ
by_number (Ok a) = Ok a
by_number (Err g) = Err (ground_number g)
