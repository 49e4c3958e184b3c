pub mod Counter
pub mod CounterSound
