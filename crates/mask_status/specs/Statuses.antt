-- The number and the text of each status.
use Rattle.std.specs.Prelude.{ℕ, List, ◌++◌, codes, decimal}
use Rattle.mask_text.specs.declared.errors.Reason.{Reason}
use Rattle.mask_text.specs.declared.errors.Reason.TheVariants.{BadHeader, BadLine, UnknownValue, NoEnd, AfterEnd, TooManyValues, BadName}
use Rattle.mask_status.specs.declared.status.KeyReason.{KeyReason}
use Rattle.mask_status.specs.declared.status.KeyReason.TheVariants.{Long, Line, Count}
use Rattle.mask_status.specs.declared.status.Status.{Status}
use Rattle.mask_status.specs.declared.status.Status.TheVariants.{Done, Refused, BadWords, BadKeys, BadText, TooLong, ReadFault, KeyFault, TapeFault, WriteFault, BadProbe, NoMemory}

abbrev pub status_number : Status → ℕ
status_number Done = 0
status_number (Refused product source) = 1
status_number (BadWords place) = 2
status_number (BadKeys reason) = 3
status_number (BadText line reason) = 4
status_number (TooLong limit) = 5
status_number ReadFault = 6
status_number KeyFault = 7
status_number TapeFault = 8
status_number WriteFault = 9
status_number (BadProbe place) = 10
status_number NoMemory = 11

abbrev pub key_text : KeyReason → List ℕ
key_text Long = codes "long"
key_text (Line line) = codes "line " ++ decimal line
key_text (Count found) = codes "found " ++ decimal found

abbrev pub reason_text : Reason → List ℕ
reason_text BadHeader = codes "bad-header"
reason_text BadLine = codes "bad-line"
reason_text UnknownValue = codes "unknown-value"
reason_text NoEnd = codes "no-end"
reason_text AfterEnd = codes "after-end"
reason_text TooManyValues = codes "too-many-values"
reason_text BadName = codes "bad-name"

abbrev pub text_of : Status → List ℕ
text_of Done = codes "done"
text_of (Refused product source) = codes "refused: product " ++ decimal product ++ codes " source " ++ decimal source
text_of (BadWords place) = codes "bad words: place " ++ decimal place
text_of (BadKeys reason) = codes "bad keys: " ++ key_text reason
text_of (BadText line reason) = codes "bad text: line " ++ decimal line ++ codes ": " ++ reason_text reason
text_of (TooLong limit) = codes "too long: limit " ++ decimal limit
text_of ReadFault = codes "read fault"
text_of KeyFault = codes "key fault"
text_of TapeFault = codes "tape fault"
text_of WriteFault = codes "write fault"
text_of (BadProbe place) = codes "bad probe: place " ++ decimal place
text_of NoMemory = codes "no memory"
