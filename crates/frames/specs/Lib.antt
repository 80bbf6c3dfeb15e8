pub mod Sends
pub mod FrameToWave
pub mod NextFrame
pub mod ReadAs
pub mod WaveToFrame
pub mod Hosts
pub mod Amid
pub mod OneFrame
