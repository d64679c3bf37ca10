use Rattle.std.proofs.Common.{map, Some, None}
use Rattle.std.specs.String.{string_bytes}
use Rattle.rx_words.specs.Read.{texts_of, wanted_of}
use Rattle.rx_words.proofs.Judged.{err_form, reads_form}
use Rattle.rx_words.proofs.request.read_words.Goals as goal

pub returns-in-Err : goal.returns-in-Err
returns-in-Err c = err_form (map string_bytes c.args.words.now) c.in-Err.fault c.in-Err.ensures

pub returns-in-Some : goal.returns-in-Some
returns-in-Some c = reads_form (map string_bytes c.args.words.now) c.in-Ok.name (texts_of c.in-Ok.given) (Some (wanted_of c.in-Some.request)) c.in-Ok.ensures c.in-Some.ensures

pub returns-in-None : goal.returns-in-None
returns-in-None c = reads_form (map string_bytes c.args.words.now) c.in-Ok.name (texts_of c.in-Ok.given) None c.in-Ok.ensures c.in-None.ensures
