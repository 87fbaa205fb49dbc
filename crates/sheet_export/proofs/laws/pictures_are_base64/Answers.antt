use Rattle.sheet_export.proofs.Addresses.{pictures_are}
use Rattle.sheet_export.proofs.laws.pictures_are_base64.Goals as goal

pub returns : goal.returns
returns c = pictures_are c.base64_is_its_alone.ensures
