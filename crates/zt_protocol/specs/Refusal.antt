-- The order and the names of refusals.
use Rattle.std.specs.Prelude.{ℕ, List, codes}
use Rattle.zt_protocol.specs.declared.errors.Refusal.{Refusal}
use Rattle.zt_protocol.specs.declared.errors.Refusal.TheVariants.{UnknownGateway, UnknownLink, EmptyLink, UnknownFace, LinkedFace, NoSuchRegion, RegionConflict, NorthTaken, WouldLoop, AnswerFromSouth, FinalFromSouth, InterestFromRouter, InterestFromNorth, IllegalCurrent, InterestIdInUse, UnknownInterest, UnknownAsk, UnknownRouter, TokenIdZero, TokenIdInUse, UnknownToken, MomentBack, DictionaryFull, IdsSpent, NumbersSpent}

abbrev pub number_of : Refusal → ℕ
number_of UnknownGateway = 1
number_of UnknownLink = 2
number_of EmptyLink = 3
number_of UnknownFace = 4
number_of LinkedFace = 5
number_of NoSuchRegion = 6
number_of RegionConflict = 7
number_of NorthTaken = 8
number_of WouldLoop = 9
number_of AnswerFromSouth = 10
number_of FinalFromSouth = 11
number_of InterestFromRouter = 12
number_of InterestFromNorth = 13
number_of IllegalCurrent = 14
number_of InterestIdInUse = 15
number_of UnknownInterest = 16
number_of UnknownAsk = 17
number_of UnknownRouter = 18
number_of TokenIdZero = 19
number_of TokenIdInUse = 20
number_of UnknownToken = 21
number_of MomentBack = 22
number_of DictionaryFull = 23
number_of IdsSpent = 24
number_of NumbersSpent = 25

-- the name that a transcript prints
abbrev pub name_of : Refusal → List ℕ
name_of UnknownGateway = codes "UnknownGateway"
name_of UnknownLink = codes "UnknownLink"
name_of EmptyLink = codes "EmptyLink"
name_of UnknownFace = codes "UnknownFace"
name_of LinkedFace = codes "LinkedFace"
name_of NoSuchRegion = codes "NoSuchRegion"
name_of RegionConflict = codes "RegionConflict"
name_of NorthTaken = codes "NorthTaken"
name_of WouldLoop = codes "WouldLoop"
name_of AnswerFromSouth = codes "AnswerFromSouth"
name_of FinalFromSouth = codes "FinalFromSouth"
name_of InterestFromRouter = codes "InterestFromRouter"
name_of InterestFromNorth = codes "InterestFromNorth"
name_of IllegalCurrent = codes "IllegalCurrent"
name_of InterestIdInUse = codes "InterestIdInUse"
name_of UnknownInterest = codes "UnknownInterest"
name_of UnknownAsk = codes "UnknownAsk"
name_of UnknownRouter = codes "UnknownRouter"
name_of TokenIdZero = codes "TokenIdZero"
name_of TokenIdInUse = codes "TokenIdInUse"
name_of UnknownToken = codes "UnknownToken"
name_of MomentBack = codes "MomentBack"
name_of DictionaryFull = codes "DictionaryFull"
name_of IdsSpent = codes "IdsSpent"
name_of NumbersSpent = codes "NumbersSpent"
