-- What lies outside stays valid, answers words, and keeps the controller's shape.
use Rattle.std.proofs.Common.{◌≡◌, ℕ, zero, suc, ◌+◌, ◌*◌, ◌/◌, ◌%◌, ◌^◌, ◌<◌, ◌≤◌, ◌⊎◌, ◌==◌, Bool, true, false, List, [], ◌∷◌, length, Option, Some, None, IsTrue, refl, sym, ap, ◌∙◌, subst, arith, ⊎_elim}
use Rattle.std.specs.Prelude.{nat_lt, if◌then◌else◌}
use Rattle.std.specs.Bool.{OnFalse}
use Rattle.std.specs.Option.{option_map}
use Rattle.std.specs.Int.{from_bool}
use Rattle.std.proofs.Math.Nat.{pow-suc}
use Rattle.std.proofs.lemmas.Bool.{and_parts, ltb-true}
use Rattle.hart_words.specs.Width.{IsWidth}
use Rattle.device_model.specs.Meanings.{Meanings, IsSound, Keeps}
use Rattle.device_model.specs.declared.device.TheConstants.{MAX_LINES}
use Rattle.clic_regs.specs.ClicState.{ClicState, reset_clic, IsClicState, input_count, is_pending, is_enabled}
use Rattle.clic_regs.specs.Shape.{ClicShape}
use Rattle.clic_regs.specs.LineChange.{line_changed}
use Rattle.clic_regs.specs.Bytes.{value_of, byte_at, byte_read, byte_written}
use Rattle.clic_regs.specs.declared.clic_byte.ClicByte.{ClicByte}
use Rattle.clic_regs.specs.declared.clic_byte.ClicByte.TheVariants.{Config, Reserved, Pending, Enable, Attribute, Control}
use Rattle.clic_regs.proofs.Kept.{line_changed-kept, byte_written-kept, line_changed-shape, byte_written-shape}
use Rattle.hart_board.specs.State.{Outside}
use Rattle.hart_board.specs.Valid.{IsOutside}
use Rattle.hart_board.specs.declared.region.Region.{Region}
use Rattle.hart_board.specs.declared.region.Region.TheVariants.{Controller, Devices, Nowhere}
use Rattle.hart_board.specs.declared.outside.TheConstants.{FIRST_DEVICE_INPUT}
use Rattle.hart_board.specs.Outside.{reset_outside, loaded_in, stored_in, device_loaded, with_device, lines_set}
use Rattle.clic_select.specs.ByteRows.{bytes_read, bytes_written, above, and_then}
use Rattle.hart_board.specs.Event.{is_free, is_free_input, IsInput, AreEventsFrom, applied_outside, arrived_outside_by, arrived_outside, taken_outside, events_outside}
use Rattle.hart_board.specs.declared.what.What.{What}
use Rattle.hart_board.specs.declared.what.What.TheVariants.{Line, Device}
use Rattle.hart_board.specs.declared.event.Event.{Event}

-- ---- numbers of a width

pub power-lt : (n width : ℕ) → IsWidth width → n < 256 ^ width → n < 2 ^ 32
power-lt n width w h =
    ⊎_elim
    (λ (e : width ≡ 1). let q : n < 256 ^ 1 = subst (λ x. n < 256 ^ x) e h in omega arith)
    (λ (o : (width ≡ 2) ⊎ (width ≡ 4)). ⊎_elim
    (λ (e : width ≡ 2). let q : n < 256 ^ 2 = subst (λ x. n < 256 ^ x) e h in omega arith)
    (λ (e : width ≡ 4). let q : n < 256 ^ 4 = subst (λ x. n < 256 ^ x) e h in omega arith)
    o)
    w

pub fits-lt : (v width : ℕ) → IsWidth width → v < 2 ^ (8 * width) → v < 2 ^ 32
fits-lt v width w h =
    ⊎_elim
    (λ (e : width ≡ 1). let q : v < 2 ^ 8 = subst (λ x. v < 2 ^ (8 * x)) e h in omega arith)
    (λ (o : (width ≡ 2) ⊎ (width ≡ 4)). ⊎_elim
    (λ (e : width ≡ 2). let q : v < 2 ^ 16 = subst (λ x. v < 2 ^ (8 * x)) e h in omega arith)
    (λ (e : width ≡ 4). let q : v < 2 ^ 32 = subst (λ x. v < 2 ^ (8 * x)) e h in q)
    o)
    w

-- ---- what the controller's bytes read

bool-lt : (b : Bool) → from_bool b < 256
bool-lt true = omega arith
bool-lt false = omega arith

value-lt : (c : ClicState) (b : ClicByte) → IsClicState c → value_of c b < 256
value-lt c Config h = let n = h.nlbits in omega (arith, n)
value-lt c Reserved h = omega arith
value-lt c (Pending i) h = bool-lt (is_pending c i)
value-lt c (Enable i) h = bool-lt (is_enabled c i)
value-lt c (Attribute i) h = let a = h.attributes i in omega (arith, a)
value-lt c (Control i) h = h.controls i

read_by : (c : ClicState) (o : Option ClicByte) (v : ℕ) → IsClicState c → option_map (value_of c) o ≡ Some v → v < 256
read_by c None v h e = absurd cc
read_by c (Some b) v h e = let is : value_of c b ≡ v = cc in subst (λ x. x < 256) is (value-lt c b h)

read-lt : (c : ClicState) (offset v : ℕ) → IsClicState c → byte_read c offset ≡ Some v → v < 256
unfolding byte_read
read-lt c offset v h e = read_by c (byte_at (input_count c) offset) v h e

above_by : (low high : Option ℕ) (w v : ℕ) → ((x : ℕ) → low ≡ Some x → x < 256) → ((x : ℕ) → high ≡ Some x → x < 256 ^ w) → above low high ≡ Some v → v < 256 ^ suc w
above_by None high w v a b e = absurd cc
above_by (Some l) None w v a b e = absurd cc
above_by (Some l) (Some h) w v a b e =
    let is : l + 256 * h ≡ v = cc in
    let x = a l refl in
    let y = b h refl in
    let p = pow-suc 256 w in
    omega arith

bytes-lt : (c : ClicState) (offset w v : ℕ) → IsClicState c → bytes_read c offset w ≡ Some v → v < 256 ^ w
unfolding bytes_read
bytes-lt c offset zero v h e = let is : 0 ≡ v = cc in omega arith
bytes-lt c offset (suc w) v h e = above_by (byte_read c offset) (bytes_read c (offset + 1) w) w v (λ x q. read-lt c offset x h q) (λ x q. bytes-lt c (offset + 1) w x h q) e

-- ---- changes of the controller keep it valid, and its shape

pub record Stays (c d : ClicState) : Type 0 where
  pub valid : IsClicState c → IsClicState d
  pub shape : d.shape ≡ c.shape

pub stays_through : (c d e : ClicState) → Stays c d → Stays d e → Stays c e
stays_through c d e a b = record { valid = λ h. b.valid (a.valid h); shape = b.shape ∙ a.shape }

line_lt : (c : ClicState) (i : ℕ) (n : ℕ) (high : Bool) → i + 1 + n ≤ c.shape.inputs → i + 1 + n ≤ (line_changed c i high).shape.inputs
line_lt c i n high l = subst (λ k. i + 1 + n ≤ k) (sym (ap (λ s. s.inputs) (line_changed-shape c i high))) l

pub lines_stay_valid : (lines : List Bool) (i : ℕ) (c : ClicState) → i + length lines ≤ c.shape.inputs → IsClicState c → IsClicState (lines_set i lines c)
unfolding lines_set
lines_stay_valid [] i c l h = h
lines_stay_valid (high ∷ lines) i c l h =
    lines_stay_valid lines (i + 1) (line_changed c i high) (line_lt c i (length lines) high (omega (arith, l))) (line_changed-kept c i high h (omega (arith, l)))

pub lines_shape : (lines : List Bool) (i : ℕ) (c : ClicState) → (lines_set i lines c).shape ≡ c.shape
unfolding lines_set
lines_shape [] i c = refl
lines_shape (high ∷ lines) i c = lines_shape lines (i + 1) (line_changed c i high) ∙ line_changed-shape c i high

byte-lt : (v : ℕ) → v % 256 < 256
byte-lt v = omega arith

written_stays : (c d : ClicState) (offset value : ℕ) → byte_written c offset (value % 256) ≡ Some d → Stays c d
written_stays c d offset value e = record { valid = λ h. byte_written-kept c d offset (value % 256) h (byte-lt value) e; shape = byte_written-shape c d offset (value % 256) e }

then_stays : (c d : ClicState) (o : Option ClicState) (next : ClicState → Option ClicState) → ((x : ClicState) → o ≡ Some x → Stays c x) → ((x : ClicState) → next x ≡ Some d → Stays x d) → and_then next o ≡ Some d → Stays c d
then_stays c d None next a b e = absurd cc
then_stays c d (Some x) next a b e = stays_through c x d (a x refl) (b x e)

pub bytes_stay : (w : ℕ) (c d : ClicState) (offset value : ℕ) → bytes_written c offset w value ≡ Some d → Stays c d
unfolding bytes_written
bytes_stay zero c d offset value e = let is : c ≡ d = cc in subst (λ x. Stays c x) is (record { valid = λ h. h; shape = refl })
bytes_stay (suc w) c d offset value e =
    then_stays c d (byte_written c offset (value % 256)) (λ x. bytes_written x (offset + 1) w (value / 256))
    (λ x q. written_stays c x offset value q)
    (λ x q. bytes_stay w x d (offset + 1) (value / 256) q)
    e

-- a store to the controller, by whether it was done
pub store_bytes_shape : (width offset value : ℕ) (c d : ClicState) (done : Bool) → bytes_written c offset width value ≡ (if done then Some d else None) → OnFalse done (d ≡ c) → d.shape ≡ c.shape
store_bytes_shape width offset value c d true e same = (bytes_stay width c d offset value e).shape
store_bytes_shape width offset value c d false e same = ap (λ (x : ClicState). x.shape) same

-- ---- accesses and events keep the shape

device_shape : (m : Meanings) (o : Outside) (device : List ℕ) → (with_device m o device).clic.shape ≡ o.clic.shape
unfolding with_device
device_shape m o device = lines_shape (m.lines device) FIRST_DEVICE_INPUT o.clic

pub reset_shape : (m : Meanings) (shape : ClicShape) (device : List ℕ) → (reset_outside m shape device).clic.shape ≡ shape
unfolding reset_clic
reset_shape m shape device = device_shape m (record { clic = reset_clic shape; device = device }) device

module _ (m : Meanings) (o : Outside) where
  controller_load_shape : (r : Option ℕ) (found : ℕ × Outside) → option_map (λ (v : ℕ). (v, o)) r ≡ Some found → found.1.clic.shape ≡ o.clic.shape
  controller_load_shape None found e = absurd cc
  controller_load_shape (Some v) found e = let is : (v, o) ≡ found = cc in ap (λ (x : ℕ × Outside). x.1.clic.shape) (sym is)

  device_load_shape : (after : List ℕ) (r : Option ℕ) (found : ℕ × Outside) → device_loaded m o after r ≡ Some found → found.1.clic.shape ≡ o.clic.shape
  device_load_shape after None found e = absurd cc
  device_load_shape after (Some v) found e = let is : (v, with_device m o after) ≡ found = cc in ap (λ (x : ℕ × Outside). x.1.clic.shape) (sym is) ∙ device_shape m o after

  pub load_shape : (width : ℕ) (r : Region) (found : ℕ × Outside) → loaded_in m o width r ≡ Some found → found.1.clic.shape ≡ o.clic.shape
  load_shape width (Controller offset) found e = controller_load_shape (bytes_read o.clic offset width) found e
  load_shape width (Devices offset) found e = device_load_shape (m.after_load o.device offset width) (m.loaded o.device offset width) found e
  load_shape width Nowhere found e = absurd cc

  controller_store_shape : (offset width value : ℕ) (r : Option ClicState) (new : Outside) → bytes_written o.clic offset width value ≡ r → option_map (λ (c : ClicState). record o { clic = c }) r ≡ Some new → new.clic.shape ≡ o.clic.shape
  controller_store_shape offset width value None new w e = absurd cc
  controller_store_shape offset width value (Some c) new w e = let is : record o { clic = c } ≡ new = cc in ap (λ (x : Outside). x.clic.shape) (sym is) ∙ (bytes_stay width o.clic c offset value w).shape

  device_store_shape : (r : Option (List ℕ)) (new : Outside) → option_map (with_device m o) r ≡ Some new → new.clic.shape ≡ o.clic.shape
  device_store_shape None new e = absurd cc
  device_store_shape (Some d) new e = let is : with_device m o d ≡ new = cc in ap (λ (x : Outside). x.clic.shape) (sym is) ∙ device_shape m o d

  pub store_shape : (width value : ℕ) (r : Region) (new : Outside) → stored_in m o width value r ≡ Some new → new.clic.shape ≡ o.clic.shape
  store_shape width value (Controller offset) new e = controller_store_shape offset width value (bytes_written o.clic offset width value) new refl e
  store_shape width value (Devices offset) new e = device_store_shape (m.after_store o.device offset width value) new e
  store_shape width value Nowhere new e = absurd cc

  pub applied_shape : (what : What) → (applied_outside m o what).clic.shape ≡ o.clic.shape
  applied_shape (Line input high) = line_changed-shape o.clic input high
  applied_shape (Device stimulus) = device_shape m o (m.after_stimulus o.device stimulus)

  arrived_by_shape : (what : What) (h : Option ℕ) → (arrived_outside_by m o what h).clic.shape ≡ o.clic.shape
  arrived_by_shape what (Some code) = refl
  arrived_by_shape what None = applied_shape what

  pub arrived_shape : (what : What) → (arrived_outside m o what).clic.shape ≡ o.clic.shape
  unfolding arrived_outside
  arrived_shape what = arrived_by_shape what (m.halted o.device)

  taken_shape : (what : What) (b : Bool) → (taken_outside m o what b).clic.shape ≡ o.clic.shape
  taken_shape what true = arrived_shape what
  taken_shape what false = refl

pub events_shape : (m : Meanings) (count : ℕ) (es : List Event) (o : Outside) → (events_outside m count es o).clic.shape ≡ o.clic.shape
unfolding events_outside
events_shape m count [] o = refl
events_shape m count (e ∷ es) o = events_shape m count es (taken_outside m o e.what (e.at == count)) ∙ taken_shape m o e.what (e.at == count)

-- ---- and keep it valid, where the device keeps its laws

module _ (m : Meanings) (sound : IsSound m) where
  device_valid : (o : Outside) (device : List ℕ) → IsOutside m o → Keeps m o.device device → IsOutside m (with_device m o device)
  unfolding with_device
  device_valid o device h k =
      let few : length (m.lines device) ≤ MAX_LINES = subst (λ n. n ≤ MAX_LINES) (sym k.line_count) h.lines in
      record { clic = lines_stay_valid (m.lines device) FIRST_DEVICE_INPUT o.clic (omega (arith, few, h.clic.shape.least)) h.clic; device = k.is_state; lines = few }

  abbrev Loaded : ℕ × Outside → Type 0
  Loaded found = (found.0 < 2 ^ 32) × IsOutside m found.1

  controller_loads : (o : Outside) (offset width : ℕ) (r : Option ℕ) (found : ℕ × Outside) → IsWidth width → IsOutside m o → bytes_read o.clic offset width ≡ r → option_map (λ (v : ℕ). (v, o)) r ≡ Some found → Loaded found
  controller_loads o offset width None found w h q e = absurd cc
  controller_loads o offset width (Some v) found w h q e = let is : (v, o) ≡ found = cc in subst (λ x. Loaded x) is (power-lt v width w (bytes-lt o.clic offset width v h.clic q), h)

  device_loads : (o : Outside) (offset width : ℕ) (r : Option ℕ) (found : ℕ × Outside) → IsWidth width → IsOutside m o → m.loaded o.device offset width ≡ r → device_loaded m o (m.after_load o.device offset width) r ≡ Some found → Loaded found
  device_loads o offset width None found w h q e = absurd cc
  device_loads o offset width (Some v) found w h q e =
      let is : (v, with_device m o (m.after_load o.device offset width)) ≡ found = cc in
      subst (λ x. Loaded x) is (fits-lt v width w (sound.loaded_fits o.device offset width v h.device q), device_valid o (m.after_load o.device offset width) h (sound.load_keeps o.device offset width h.device))

  pub load_valid : (o : Outside) (width : ℕ) (r : Region) (found : ℕ × Outside) → IsWidth width → IsOutside m o → loaded_in m o width r ≡ Some found → Loaded found
  load_valid o width (Controller offset) found w h e = controller_loads o offset width (bytes_read o.clic offset width) found w h refl e
  load_valid o width (Devices offset) found w h e = device_loads o offset width (m.loaded o.device offset width) found w h refl e
  load_valid o width Nowhere found w h e = absurd cc

  controller_stores : (o : Outside) (offset width value : ℕ) (r : Option ClicState) (new : Outside) → IsOutside m o → bytes_written o.clic offset width value ≡ r → option_map (λ (c : ClicState). record o { clic = c }) r ≡ Some new → IsOutside m new
  controller_stores o offset width value None new h q e = absurd cc
  controller_stores o offset width value (Some c) new h q e = let is : record o { clic = c } ≡ new = cc in subst (λ x. IsOutside m x) is (record { clic = (bytes_stay width o.clic c offset value q).valid h.clic; device = h.device; lines = h.lines })

  device_stores : (o : Outside) (offset width value : ℕ) (r : Option (List ℕ)) (new : Outside) → value < 2 ^ (8 * width) → IsOutside m o → m.after_store o.device offset width value ≡ r → option_map (with_device m o) r ≡ Some new → IsOutside m new
  device_stores o offset width value None new l h q e = absurd cc
  device_stores o offset width value (Some d) new l h q e = let is : with_device m o d ≡ new = cc in subst (λ x. IsOutside m x) is (device_valid o d h (sound.store_keeps o.device offset width value d h.device l q))

  pub store_valid : (o : Outside) (width value : ℕ) (r : Region) (new : Outside) → value < 2 ^ (8 * width) → IsOutside m o → stored_in m o width value r ≡ Some new → IsOutside m new
  store_valid o width value (Controller offset) new l h e = controller_stores o offset width value (bytes_written o.clic offset width value) new h refl e
  store_valid o width value (Devices offset) new l h e = device_stores o offset width value (m.after_store o.device offset width value) new l h refl e
  store_valid o width value Nowhere new l h e = absurd cc

  pub applied_valid : (o : Outside) (what : What) → IsTrue (is_free o.clic.shape.inputs what) → IsInput what → IsOutside m o → IsOutside m (applied_outside m o what)
  applied_valid o (Line input high) f i h =
      let l = ltb-true input o.clic.shape.inputs (and_parts (nat_lt input o.clic.shape.inputs) (is_free_input input) f).0 in
      record { clic = line_changed-kept o.clic input high h.clic l; device = h.device; lines = h.lines }
  applied_valid o (Device stimulus) f i h = device_valid o (m.after_stimulus o.device stimulus) h (sound.stimulus_keeps o.device stimulus h.device i)

  arrived_by_valid : (o : Outside) (what : What) (c : Option ℕ) → IsTrue (is_free o.clic.shape.inputs what) → IsInput what → IsOutside m o → IsOutside m (arrived_outside_by m o what c)
  arrived_by_valid o what (Some code) f i h = h
  arrived_by_valid o what None f i h = applied_valid o what f i h

  arrived_valid : (o : Outside) (what : What) → IsTrue (is_free o.clic.shape.inputs what) → IsInput what → IsOutside m o → IsOutside m (arrived_outside m o what)
  unfolding arrived_outside
  arrived_valid o what f i h = arrived_by_valid o what (m.halted o.device) f i h

  taken_valid : (o : Outside) (what : What) (b : Bool) → IsTrue (is_free o.clic.shape.inputs what) → IsInput what → IsOutside m o → IsOutside m (taken_outside m o what b)
  taken_valid o what true f i h = arrived_valid o what f i h
  taken_valid o what false f i h = h

  pub events_valid : (es : List Event) (n count from : ℕ) (o : Outside) → o.clic.shape.inputs ≡ n → AreEventsFrom n from es → IsOutside m o → IsOutside m (events_outside m count es o)
  unfolding events_outside
  events_valid [] n count from o s a h = h
  events_valid (e ∷ es) n count from o s a h =
      let free : IsTrue (is_free o.clic.shape.inputs e.what) = subst (λ k. IsTrue (is_free k e.what)) (sym s) a.1 in
      let next = taken_outside m o e.what (e.at == count) in
      events_valid es n count e.at next (ap (λ x. x.inputs) (taken_shape m o e.what (e.at == count)) ∙ s) a.3 (taken_valid o e.what (e.at == count) free a.2 h)
