-- The number of each reason of refusal. No number is given anywhere else.
use Rattle.std.specs.Prelude.{ℕ}
use Rattle.denial.specs.declared.reason.Reason.{Reason}
use Rattle.denial.specs.declared.reason.Reason.TheVariants.{FanoutRange, HeightRange, TooManyNodes, SliceTooShort, TableTooShort, WrongMark, WrongVersion, WrongKind, WrongShape, WrongLength, LoadedBeyondLimit, WrongDenominator, Unlaid, NoSuchNode, EnteredBeyondLimit, SomeNodeEmpty, NotReleased, NodeEmpty, ValueRange, WeightRange, RunFull, NoItems, BufferTooShort, ZeroDenominator, BeyondCarryLimit, NoSuchComponent}

abbrev pub number : Reason → ℕ
number FanoutRange = 11
number HeightRange = 12
number TooManyNodes = 13
number SliceTooShort = 14
number TableTooShort = 21
number WrongMark = 22
number WrongVersion = 23
number WrongKind = 24
number WrongShape = 25
number WrongLength = 26
number LoadedBeyondLimit = 27
number WrongDenominator = 28
number Unlaid = 30
number NoSuchNode = 31
number EnteredBeyondLimit = 32
number SomeNodeEmpty = 33
number NotReleased = 34
number NodeEmpty = 35
number ValueRange = 41
number WeightRange = 42
number RunFull = 43
number NoItems = 45
number BufferTooShort = 51
number ZeroDenominator = 53
number BeyondCarryLimit = 61
number NoSuchComponent = 62
