-- A command line that is simple and free is simple: so only the greater of the two is computed.
use Rattle.std.proofs.Common.{◌≡◌, ◌&&◌, Bool, true, false, refl}
use Rattle.clap.specs.Words.{App, is_simple, is_simple_and_free}

both_first : (x y : Bool) → (x && y) ≡ true → x ≡ true
both_first true y e = refl
both_first false y e = e

pub simple_of : (a : App) → is_simple_and_free a ≡ true → is_simple a ≡ true
simple_of a e = both_first (is_simple a) _ e
