-- The refusal of each fault.
use Rattle.rulefile.specs.declared.refusals.Refusal.{Refusal}
use Rattle.rulefile.specs.declared.refusals.Refusal.TheVariants.{FileTooLong, RecordCut, LengthRange, LengthPastEnd, UnknownKind, HeadMisplaced, TooManyOfKind, BodyLength, OutOfRange, MarkRange}
use Rattle.workshop.specs.declared.faults.Found.{Found}
use Rattle.workshop.specs.declared.faults.Found.TheVariants.{FileLength, Cut, Length, PastEnd, UnknownKind as KindCode, NoHead, SecondHead, TooMany, Missing, LeftOver, Number, Mark}

-- why a file with this fault is refused
abbrev pub why_of : Found → Refusal
why_of (FileLength _) = FileTooLong
why_of (Cut _) = RecordCut
why_of (Length _) = LengthRange
why_of (PastEnd _ _) = LengthPastEnd
why_of (KindCode _) = UnknownKind
why_of (NoHead _) = HeadMisplaced
why_of SecondHead = HeadMisplaced
why_of TooMany = TooManyOfKind
why_of (Missing _ _ _) = BodyLength
why_of (LeftOver _) = BodyLength
why_of (Number _ _ _ _) = OutOfRange
why_of (Mark _ _ _) = MarkRange
